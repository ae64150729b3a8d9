-- Types by a base and as many dimensions.
use Rattle.std.specs.Prelude.{◌≡◌, ◌+◌, ◌<◌, List}
use Rattle.jv_types.specs.declared.desc.RefType.{RefType, Class, PrimArray, Array', Row_of-RefType, end_of-RefType, more_of-RefType}
use Rattle.jv_types.specs.declared.ids.ClassId.{ClassId}
use Rattle.jv_types.specs.declared.label.LibBase.TheVariants as bases
use Rattle.jv_types.specs.declared.shapes.Shape.{Shape}
use Rattle.jv_world.specs.Worlds.{IsNamed}
use Rattle.jv_world.specs.Instances.{IsInstanceInDims}
use Rattle.av_rules.specs.declared.flat_type.FlatType.{FlatType}

-- the reference type is this one, whose class is one of the world; a type has at most 255 dimensions (JVMS 4.3.2,
-- 4.4.1)
abbrev mutual
  pub IsFlat : List Shape → RefType → FlatType → Type 0
  IsFlat w (Class name) flat = (c : ClassId) × IsNamed w c.number name × (flat ≡ record { base = bases.Class c; dims = 0 })
  IsFlat w (PrimArray prim) flat = flat ≡ record { base = bases.Prim prim; dims = 1 }
  IsFlat w (Array' shape items) flat = IsFlatArray w items flat

  pub IsFlatArray : List Shape → {m : _} → Row_of-RefType m → FlatType → Type 0
  IsFlatArray w end_of-RefType flat = ⊥
  IsFlatArray w (more_of-RefType item rest) flat = (inner : FlatType) × IsFlat w item inner × (inner.dims < 255) × (flat ≡ record { base = inner.base; dims = inner.dims + 1 })

-- each object of the one type is an instance of the other (JVMS 4.10.1.2, JLS 4.10.3): interfaces are precise here
abbrev pub IsInstanceOfFlat : List Shape → FlatType → FlatType → Type 0
IsInstanceOfFlat w type of = IsInstanceInDims w type.base type.dims of.base of.dims
