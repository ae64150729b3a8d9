-- What may stand in arrays.
use Rattle.std.proofs.Common.{◌≡◌, ◌↔◌, ◌+◌, ℕ, Bool, IsTrue, List, refl, sym, ap, ◌∙◌, subst, ⊎_elim, arith}
use Rattle.std.proofs.lemmas.List.{append_cancel_right}
use Rattle.std.proofs.lemmas.Option.{same_Some}
use Rattle.std.specs.Prelude.{codes}
use Rattle.jv_types.specs.declared.ids.ClassId.{ClassId}
use Rattle.jv_types.specs.declared.label.Label.{Label}
use Rattle.jv_types.specs.declared.label.LibBase.{LibBase}
use Rattle.jv_types.specs.declared.label.LibBase.TheVariants as bases
use Rattle.jv_types.specs.declared.shapes.Shape.{Shape}
use Rattle.jv_world.specs.Instances.{IsBaseHere}
use Rattle.jv_world.specs.Worlds.{AreNumbered, IsNamed}
use Rattle.av_conditions.specs.StandIn.{any_name}
use Rattle.av_rules.specs.declared.flat_type.FlatType.{FlatType}
use Rattle.av_rules.specs.Labels.{AreItems, IsBound, IsReferenceFlat, IsSeenAs, MayStandIn, PassesFlat}
use Rattle.av_rules.specs.Program.{Program}
use Rattle.av_rules.specs.StandInClasses.{IsAnyClassOf}
use Rattle.av_rules.proofs.Here.{seen_here, type_here}
use Rattle.av_rules.proofs.Types.{AreDistinct, type_one}

-- a class has one name
same_name : (w : List Shape) (c : ℕ) (name other : List ℕ) → IsNamed w c name → IsNamed w c other → name ≡ other
same_name w c name other x y =
    let same : x.0 ≡ y.0 = same_Some x.0 y.0 (sym x.1 ∙ y.1) in
    sym x.2 ∙ ap (λ (s : Shape). s.name) same ∙ y.2

-- a class of any object stands for one class
pub stood_one : (w : List Shape) (c d any : ℕ) → AreNumbered w → IsAnyClassOf w c any → IsAnyClassOf w d any → c ≡ d
stood_one w c d any numbered x y =
    let whole : any_name x.0.name ≡ any_name y.0.name = same_name w any (any_name x.0.name) (any_name y.0.name) x.2 y.2 in
    let same : x.0.name ≡ y.0.name = append_cancel_right x.0.name y.0.name (codes "$averroes$any") whole in
    numbered.distinct c d y.0.name (x.0, x.1.place, same) (y.0, y.1.place, refl)

seen_one : (w : List Shape) (base a b : LibBase) → AreNumbered w → IsSeenAs w base a → IsSeenAs w base b → a ≡ b
seen_one w (bases.Class c) a b numbered x y =
    ⊎_elim
    (λ (left : (d : ClassId) × IsAnyClassOf w d.number c.number × (a ≡ bases.Class d)).
    ⊎_elim
    (λ (right : (d : ClassId) × IsAnyClassOf w d.number c.number × (b ≡ bases.Class d)).
    let same : left.0.number ≡ right.0.number = stood_one w left.0.number right.0.number c.number numbered left.1 right.1 in
    left.2 ∙ ap (λ (n : ℕ). bases.Class (record { number = n })) same ∙ sym right.2)
    (λ right. absurd (right.0 (left.0.number, left.1)))
    y)
    (λ left.
    ⊎_elim
    (λ (right : (d : ClassId) × IsAnyClassOf w d.number c.number × (b ≡ bases.Class d)). absurd (left.0 (right.0.number, right.1)))
    (λ right. left.1 ∙ sym right.1)
    y)
    x
seen_one w (bases.Prim prim) a b numbered x y = x ∙ sym y

pub items_one : (w : List Shape) (made a b : FlatType) → AreNumbered w → AreItems w made a → AreItems w made b → a ≡ b
items_one w made a b numbered x y =
    let base : a.base ≡ b.base = seen_one w made.base a.base b.base numbered x.seen y.seen in
    let dims : a.dims ≡ b.dims = omega (arith, x.array, y.array) in
    ap (λ (l : LibBase). record { base = l; dims = a.dims }) base ∙ ap (λ (d : ℕ). record { base = b.base; dims = d }) dims

-- what is no item of a type without dimensions
pub none_of_flat : (w : List Shape) (made bound : FlatType) → made.dims ≡ 0 → AreItems w made bound → ⊥
none_of_flat w made bound flat x = absurd (omega (arith, x.array, flat))

-- what may stand there is seen from the items
pub items_by : (w : List Shape) (made item bound : FlatType) → item.base ≡ made.base → made.dims ≡ item.dims + 1 → bound.dims ≡ item.dims
    → IsSeenAs w item.base bound.base → IsReferenceFlat bound → AreItems w made bound
items_by w made item bound base more dims seen references = record {
  array = omega (arith, more, dims);
  seen = subst (λ (l : LibBase). IsSeenAs w l bound.base) base seen;
  references = references;
}

-- and the other way round
pub seen_by : (w : List Shape) (made item bound : FlatType) → item.base ≡ made.base → made.dims ≡ item.dims + 1 → AreItems w made bound
    → (bound.dims ≡ item.dims) × IsSeenAs w item.base bound.base × IsReferenceFlat bound
seen_by w made item bound base more x =
    (omega (arith, x.array, more), subst (λ (l : LibBase). IsSeenAs w l bound.base) (sym base) x.seen, x.references)

-- what is seen of an item is one
pub seen_item_one : (w : List Shape) (item seen bound : FlatType) → AreNumbered w → IsSeenAs w item.base seen.base → seen.dims ≡ item.dims
    → bound.dims ≡ item.dims → IsSeenAs w item.base bound.base → bound ≡ seen
seen_item_one w item seen bound numbered is dims others other =
    let base : bound.base ≡ seen.base = seen_one w item.base bound.base seen.base numbered other is in
    let more : bound.dims ≡ seen.dims = omega (arith, dims, others) in
    ap (λ (l : LibBase). record { base = l; dims = bound.dims }) base ∙ ap (λ (d : ℕ). record { base = seen.base; dims = d }) more

pub bound_one : (p : Program) (label : Label) (a b : FlatType) → AreNumbered p.world → AreDistinct p.methods → IsBound p label a → IsBound p label b → a ≡ b
bound_one p label a b numbered distinct x y =
    let same : x.0 ≡ y.0 = type_one p label x.0 y.0 numbered distinct x.1 y.1 in
    let P : FlatType → Type 0 = λ f. AreItems p.world f a in
    items_one p.world y.0 a b numbered (subst P same x.2) y.2

pub bound_here : (p : Program) (label : Label) (bound : FlatType) → IsBound p label bound → IsBaseHere p.world bound.base
bound_here p label bound x = seen_here p.world x.0.base bound.base (type_here p label x.0 x.1) x.2.seen

-- the test against the one bound
pub stands_by : (p : Program) (item array : Label) (bound : FlatType) (t : Bool) → AreNumbered p.world → AreDistinct p.methods → IsBound p array bound
    → IsTrue t ↔ PassesFlat p item bound → IsTrue t ↔ MayStandIn p item array
stands_by p item array bound t numbered distinct is says = (
  λ yes. (bound, is, says.0 yes),
  λ may.
      let same : may.0 ≡ bound = bound_one p array may.0 bound numbered distinct may.1 is in
      let P : FlatType → Type 0 = λ f. PassesFlat p item f in
      says.1 (subst P same may.2),
)
