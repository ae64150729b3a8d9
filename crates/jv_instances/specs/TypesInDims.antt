-- Reference types that are given by a base and its dimensions.
use Rattle.std.specs.Prelude.{◌≡◌, ℕ, zero, suc, List}
use Rattle.jv_types.specs.declared.desc.RefType.{RefType, Class, PrimArray, Array}
use Rattle.jv_types.specs.declared.label.LibBase.{LibBase}
use Rattle.jv_types.specs.declared.label.LibBase.TheVariants.{Class as LibClass, Prim as LibPrim}
use Rattle.jv_types.specs.declared.shapes.Shape.{Shape}
use Rattle.jv_world.specs.Worlds.{IsNamed}

-- the type is as many arrays around this one
abbrev pub IsArrayAround : ℕ → RefType → RefType → Type 0
IsArrayAround zero inner type = type ≡ inner
IsArrayAround (suc n) inner type = (item : RefType) × (type ≡ Array item) × IsArrayAround n inner item

-- The reference type of a base with so many dimensions: of a class, by the name that it has, or of a primitive
-- type, which is one only with a dimension at least.
abbrev pub IsTypeInDims : List Shape → LibBase → ℕ → RefType → Type 0
IsTypeInDims w (LibClass c) dims type = (name : List ℕ) × IsNamed w c.number name × IsArrayAround dims (Class name) type
IsTypeInDims w (LibPrim prim) dims type = (around : ℕ) × (dims ≡ suc around) × IsArrayAround around (PrimArray prim) type
