-- Arrays among reference types.
use Rattle.std.proofs.Common.{◌≡◌, ℕ, Bool, true, false, IsTrue, List, [], refl, sym, ap, ◌∙◌, subst}
use Rattle.std.proofs.lemmas.Bool.{false≢true}
use Rattle.jv_types.specs.declared.desc.PrimType.{PrimType}
use Rattle.jv_types.specs.declared.desc.RefType.{RefType, Class, PrimArray, Array, Array', Row_of-RefType, end_of-RefType, more_of-RefType}
use Rattle.jv_types.specs.declared.shapes.Shape.{Shape}
use Rattle.jv_world.specs.Instances.{IsInstanceOf}

-- the items of an array of references
abbrev mutual
  item_of : RefType → RefType
  item_of (Class name) = Class name
  item_of (PrimArray prim) = PrimArray prim
  item_of (Array' shape items) = first_of items

  first_of : {m : _} → Row_of-RefType m → RefType
  first_of end_of-RefType = Class []
  first_of (more_of-RefType item rest) = item

is_array : RefType → Bool
is_array (Class name) = false
is_array (PrimArray prim) = false
is_array (Array' shape items) = true

item_of-Array : (item : RefType) → item_of (Array item) ≡ item
unfolding Rattle.jv_types.specs.declared.desc.RefType.TheBlock.shape-the_row-RefType-0 Rattle.jv_types.specs.declared.desc.RefType.TheBlock.hidden-the_row-RefType-0 denote.Hole.Carrier.hidden
item_of-Array item = refl

is_array-Array : (item : RefType) → is_array (Array item) ≡ true
unfolding is_array
is_array-Array item = refl

pub Class-no_array : (name : List ℕ) (item : RefType) → Class name ≡ Array item → ⊥
unfolding is_array
Class-no_array name item e = false≢true (ap is_array e ∙ is_array-Array item)

pub PrimArray-no_array : (prim : PrimType) (item : RefType) → PrimArray prim ≡ Array item → ⊥
unfolding is_array
PrimArray-no_array prim item e = false≢true (ap is_array e ∙ is_array-Array item)

-- what an array of references is an instance of, among such arrays
pub IsInstanceOf-Array : (w : List Shape) (t item : RefType) → IsInstanceOf w t (Array item) ≡ ((own : RefType) × (t ≡ Array own) × IsInstanceOf w own item)
unfolding Rattle.jv_types.specs.declared.desc.RefType.TheBlock.shape-the_row-RefType-0 Rattle.jv_types.specs.declared.desc.RefType.TheBlock.hidden-the_row-RefType-0 denote.Hole.Carrier.hidden
IsInstanceOf-Array w t item = refl

-- what is no array of references is an instance of none
pub IsInstanceOf-no_array : (w : List Shape) (t of item : RefType) → of ≡ Array item → ((own : RefType) → t ≡ Array own → ⊥)
    → (IsTrue false → IsInstanceOf w t of) × (IsInstanceOf w t of → IsTrue false)
IsInstanceOf-no_array w t of item is none = (
  λ h. absurd (false≢true h),
  λ instance.
      let P : RefType → Type 0 = λ o. IsInstanceOf w t o in
      let Q : Type 0 → Type 0 = λ A. A in
      let array = subst Q (IsInstanceOf-Array w t item) (subst P is instance) in
      absurd (none array.0 array.1),
)

-- arrays of references go by their items
pub IsInstanceOf-arrays : (w : List Shape) (t of s item p q : RefType) (r : Bool) → t ≡ Array s → of ≡ Array item → p ≡ s → q ≡ item
    → (IsTrue r → IsInstanceOf w p q) × (IsInstanceOf w p q → IsTrue r) → (IsTrue r → IsInstanceOf w t of) × (IsInstanceOf w t of → IsTrue r)
IsInstanceOf-arrays w t of s item p q r is_t is_of is_p is_q says =
    let P : RefType → Type 0 = λ o. IsInstanceOf w t o in
    let Q : Type 0 → Type 0 = λ A. A in
    let R : RefType → Type 0 = λ x. IsInstanceOf w x q in
    let S : RefType → Type 0 = λ x. IsInstanceOf w s x in (
      λ yes. subst P (sym is_of) (subst Q (sym (IsInstanceOf-Array w t item)) (s, is_t, subst S is_q (subst R is_p (says.0 yes)))),
      λ instance.
          let array = subst Q (IsInstanceOf-Array w t item) (subst P is_of instance) in
          let T : RefType → Type 0 = λ x. IsInstanceOf w x item in
          let U : RefType → Type 0 = λ x. IsInstanceOf w p x in
          let own : array.0 ≡ p = sym (item_of-Array array.0) ∙ ap item_of (sym array.1 ∙ is_t) ∙ item_of-Array s ∙ sym is_p in
          says.1 (subst U (sym is_q) (subst T own array.2)),
    )
