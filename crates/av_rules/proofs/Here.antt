-- The classes of types are classes of the world.
use Rattle.std.proofs.Common.{◌≡◌, ◌+◌, ◌<◌, ℕ, List, length, sym, ap, subst, ⊎_elim}
use Rattle.std.proofs.lemmas.Option.{slice_get_within}
use Rattle.jv_types.specs.declared.desc.RefType.{RefType, Class, PrimArray, Array', Row_of-RefType, end_of-RefType, more_of-RefType}
use Rattle.jv_types.specs.declared.desc.RefType as types
use Rattle.jv_types.specs.declared.ids.ClassId.{ClassId}
use Rattle.jv_types.specs.declared.instruction.Arg.{Arg}
use Rattle.jv_types.specs.declared.instruction.Arg.TheVariants as args
use Rattle.jv_types.specs.declared.label.Label.{Label}
use Rattle.jv_types.specs.declared.label.Label.TheVariants.{Site, Lib}
use Rattle.jv_types.specs.declared.label.LibBase.{LibBase}
use Rattle.jv_types.specs.declared.label.LibBase.TheVariants as bases
use Rattle.jv_types.specs.declared.shapes.Shape.{Shape}
use Rattle.jv_world.specs.Instances.{IsBaseHere}
use Rattle.jv_resolve.proofs.Hierarchy.{named_here}
use Rattle.av_conditions.specs.StandIn.{any_name}
use Rattle.av_rules.specs.declared.flat_type.FlatType.{FlatType}
use Rattle.av_rules.specs.FlatTypes.{IsFlat, IsFlatArray}
use Rattle.av_rules.specs.Labels.{IsLibType, IsSeenAs, IsTypeOf, MakesBy}
use Rattle.av_rules.specs.Program.{Program}
use Rattle.av_rules.specs.StandInClasses.{IsAnyClassOf, IsFinalClass}

-- a base that is another one which is here
same_here : (w : List Shape) (a b : LibBase) → a ≡ b → IsBaseHere w b → IsBaseHere w a
same_here w a b is here = subst (IsBaseHere w) (sym is) here

base_here : (w : List Shape) (a b : FlatType) → a ≡ b → IsBaseHere w b.base → IsBaseHere w a.base
base_here w a b is here = same_here w a.base b.base (ap (λ (f : FlatType). f.base) is) here

mutual
  pub flat_here : (w : List Shape) (t : RefType) (flat : FlatType) → IsFlat w t flat → IsBaseHere w flat.base
  flat_here w (Class name) flat x = base_here w flat (record { base = bases.Class x.0; dims = 0 }) x.2 (named_here w x.0.number name x.1)
  flat_here w (PrimArray prim) flat x = base_here w flat (record { base = bases.Prim prim; dims = 1 }) x tt
  flat_here w (Array' shape items) flat x = items_here w items flat x

  items_here : (w : List Shape) {m : _} (items : Row_of-RefType m) (flat : FlatType) → IsFlatArray w items flat → IsBaseHere w flat.base
  items_here w end_of-RefType flat x = absurd x
  items_here w (more_of-RefType item rest) flat x =
      base_here w flat (record { base = x.0.base; dims = x.0.dims + 1 }) x.3 (flat_here w item x.0 x.1)

pub any_here : (w : List Shape) (c any : ℕ) → IsAnyClassOf w c any → any < length w
any_here w c any x = named_here w any (any_name x.0.name) x.2

pub class_here : (w : List Shape) (c any : ℕ) → IsAnyClassOf w c any → c < length w
class_here w c any x = slice_get_within w c x.0 x.1.place

makes_here : (w : List Shape) (op : ℕ) (arg : Arg) (depth : ℕ) (made : FlatType) → MakesBy w op arg depth made → IsBaseHere w made.base
makes_here w op (args.Class type) depth made x = ⊎_elim (λ left. flat_here w type made left.1) (λ right. flat_here w (types.Array type) made right.1) x.1
makes_here w op (args.NewPrim prim) depth made x = base_here w made (record { base = bases.Prim prim; dims = 1 }) x.2 tt
makes_here w op (args.Multi type count) depth made x = same_here w made.base x.2.0.base x.2.2 (flat_here w type x.2.0 x.2.1)
makes_here w op _ depth made x = absurd x

lib_here : (w : List Shape) (base : LibBase) (dims : ℕ) (made : FlatType) → IsLibType w base dims made → IsBaseHere w made.base
lib_here w (bases.Class c) dims made x =
    base_here w made (record { base = bases.Class x.0; dims = dims }) x.2
    (⊎_elim
    (λ (left : IsAnyClassOf w c.number x.0.number). any_here w c.number x.0.number left)
    (λ (right : (class : Shape) × IsFinalClass w c.number class × (x.0 ≡ c)).
    same_here w (bases.Class x.0) (bases.Class c) (ap bases.Class right.2) (slice_get_within w c.number right.0 right.1.place))
    x.1)
lib_here w (bases.Prim prim) dims made x = base_here w made (record { base = bases.Prim prim; dims = dims }) x.1 tt

-- the class of a label's type is
pub type_here : (p : Program) (label : Label) (made : FlatType) → IsTypeOf p label made → IsBaseHere p.world made.base
type_here p (Site m pc depth) made x = makes_here p.world x.insn.op x.insn.arg depth made x.makes
type_here p (Lib base dims) made x = lib_here p.world base dims made x

-- and that of what it counts as
pub seen_here : (w : List Shape) (base seen : LibBase) → IsBaseHere w base → IsSeenAs w base seen → IsBaseHere w seen
seen_here w (bases.Class c) seen here x =
    ⊎_elim
    (λ (left : (d : ClassId) × IsAnyClassOf w d.number c.number × (seen ≡ bases.Class d)). same_here w seen (bases.Class left.0) left.2 (class_here w left.0.number c.number left.1))
    (λ right. same_here w seen (bases.Class c) right.1 here)
    x
seen_here w (bases.Prim prim) seen here x = same_here w seen (bases.Prim prim) x tt
