-- Types whose classes are there, and those that `new` may make.
use Rattle.std.proofs.Common.{◌≡◌, ℕ, List, [], Some, Bool, IsTrue, slice_get, refl, sym, ◌∙◌, ap, subst}
use Rattle.std.specs.Prelude.{◌↔◌}
use Rattle.std.proofs.lemmas.Option.{same_Some}
use Rattle.jv_types.specs.declared.desc.RefType.{RefType, Class, PrimArray, Array, Array', Row_of-RefType, end_of-RefType, more_of-RefType}
use Rattle.jv_types.specs.declared.shapes.Shape.{Shape}
use Rattle.jv_world.specs.Worlds.{AreNumbered, IsNamed}
use Rattle.av_conditions.specs.RightReferences.{IsTypeThere, IsMakeable, IsMakeableType}

-- an array of references is there where its items are
there-Array : (w : List Shape) (item : RefType) → IsTypeThere w (Array item) ≡ IsTypeThere w item
unfolding Rattle.jv_types.specs.declared.desc.RefType.TheBlock.shape-the_row-RefType-0 Rattle.jv_types.specs.declared.desc.RefType.TheBlock.hidden-the_row-RefType-0 denote.Hole.Carrier.hidden
there-Array w item = refl

pub there_by_item : (w : List Shape) (type item got : RefType) (r : Bool) → type ≡ Array item → got ≡ item → IsTrue r ↔ IsTypeThere w got → IsTrue r ↔ IsTypeThere w type
there_by_item w type item got r is read says =
    let P : RefType → Type 0 = IsTypeThere w in
    let Q : Type 0 → Type 0 = λ A. A in (
      λ t. subst P (sym is) (subst Q (sym (there-Array w item)) (subst P read (says.0 t))),
      λ p. says.1 (subst P (sym read) (subst Q (there-Array w item) (subst P is p))),
    )

-- a class that is nowhere is not there
pub absent_not_there : (w : List Shape) (type : RefType) (name : List ℕ) → type ≡ Class name → ((c : ℕ) → IsNamed w c name → ⊥) → IsTypeThere w type → ⊥
absent_not_there w type name is none p =
    let P : RefType → Type 0 = IsTypeThere w in
    let there : (c : ℕ) × IsNamed w c name = subst P is p in
    none there.0 there.1

-- the name of a class, and nothing of an array
class_of : RefType → List ℕ
class_of (Class name) = name
class_of (PrimArray prim) = []
class_of (Array' shape items) = []

same_class : (m n : List ℕ) → Class m ≡ Class n → m ≡ n
unfolding class_of
same_class m n e = ap class_of e

-- the class is not there
pub absent_not_makeable : (w : List Shape) (type : RefType) (name : List ℕ) → type ≡ Class name → ((c : ℕ) → IsNamed w c name → ⊥) → IsMakeableType w type → ⊥
absent_not_makeable w type name is none p =
    none p.1 (p.2, p.4, p.5 ∙ same_class p.0 name (sym p.3 ∙ is))

-- the class is there
pub makeable_by : (w : List Shape) (type : RefType) (name : List ℕ) (c : ℕ) (shape : Shape) (b : Bool) → AreNumbered w → type ≡ Class name → IsNamed w c name → slice_get w c ≡ Some shape
    → IsTrue b ↔ IsMakeable shape → IsTrue b ↔ IsMakeableType w type
makeable_by w type name c shape b numbered is named at says =
    let own : shape ≡ named.0 = same_Some shape named.0 (sym at ∙ named.1) in (
      λ t. (name, c, shape, is, at, ap (λ (s : Shape). s.name) own ∙ named.2, says.0 t),
      λ p.
          let same : p.0 ≡ name = same_class p.0 name (sym p.3 ∙ is) in
          let here : p.1 ≡ c = numbered.distinct p.1 c name (p.2, p.4, p.5 ∙ same) named in
          let other : p.2 ≡ shape = same_Some p.2 shape (sym p.4 ∙ ap (slice_get w) here ∙ at) in
          says.1 (subst IsMakeable other p.6),
    )
