-- Instances of types with as many arrays around them.
use Rattle.std.proofs.Common.{◌≡◌, ℕ, zero, suc, ◌+◌, ◌<◌, ◌⊎◌, List, [], refl, sym, ap, ◌∙◌, subst, inl, inr, arith}
use Rattle.std.specs.Prelude.{◌↔◌}
use Rattle.jv_types.specs.declared.desc.RefType.{RefType, Class, PrimArray, Array, Array', Row_of-RefType, end_of-RefType, more_of-RefType}
use Rattle.jv_types.specs.declared.shapes.Shape.{Shape}
use Rattle.jv_types.specs.Types.{ref_depth}
use Rattle.jv_types.proofs.TypeKeys.{ref_depth-Array}
use Rattle.jv_world.specs.Instances.{IsArraySuper, IsInstanceOf}
use Rattle.jv_instances.specs.TypesInDims.{IsArrayAround}

-- the items of an array of references
abbrev mutual
  item_of : RefType → RefType
  item_of (Class name) = Class name
  item_of (PrimArray prim) = PrimArray prim
  item_of (Array' shape items) = first_of items

  first_of : {m : _} → Row_of-RefType m → RefType
  first_of end_of-RefType = Class []
  first_of (more_of-RefType item rest) = item

item_of-Array : (item : RefType) → item_of (Array item) ≡ item
unfolding Rattle.jv_types.specs.declared.desc.RefType.TheBlock.shape-the_row-RefType-0 Rattle.jv_types.specs.declared.desc.RefType.TheBlock.hidden-the_row-RefType-0 denote.Hole.Carrier.hidden
item_of-Array item = refl

one_item : (a b : RefType) → Array a ≡ Array b → a ≡ b
one_item a b e = sym (item_of-Array a) ∙ ap item_of e ∙ item_of-Array b

no_array : (type item : RefType) → ref_depth type ≡ 0 → type ≡ Array item → ⊥
no_array type item flat e = let deep : ref_depth type ≡ ref_depth item + 1 = ap ref_depth e ∙ ref_depth-Array item in absurd (omega (arith, flat, deep))

-- what arrays of references are instances of
of_array : (w : List Shape) (type item : RefType) → IsInstanceOf w type (Array item) ≡ ((own : RefType) × (type ≡ Array own) × IsInstanceOf w own item)
unfolding Rattle.jv_types.specs.declared.desc.RefType.TheBlock.shape-the_row-RefType-0 Rattle.jv_types.specs.declared.desc.RefType.TheBlock.hidden-the_row-RefType-0 denote.Hole.Carrier.hidden
of_array w type item = refl

of_class : (w : List Shape) (item : RefType) (name : List ℕ) → IsInstanceOf w (Array item) (Class name) ≡ IsArraySuper name
unfolding Rattle.jv_types.specs.declared.desc.RefType.TheBlock.shape-the_row-RefType-0 Rattle.jv_types.specs.declared.desc.RefType.TheBlock.hidden-the_row-RefType-0 denote.Hole.Carrier.hidden
of_class w item name = refl

-- every array is an instance of a type without arrays
abbrev pub IsAboveArrays : RefType → Type 0
IsAboveArrays (Class name) = IsArraySuper name
IsAboveArrays (PrimArray prim) = ⊥
IsAboveArrays (Array' shape items) = ⊥

-- an array, and a type without arrays
array_of_flat : (w : List Shape) (item flat : RefType) → ref_depth flat ≡ 0 → IsInstanceOf w (Array item) flat ↔ IsAboveArrays flat
array_of_flat w item (Class name) e = subst (λ (A : Type 0). A ↔ IsArraySuper name) (sym (of_class w item name)) (λ p. p, λ p. p)
array_of_flat w item (PrimArray prim) e = (λ p. absurd (no_array (PrimArray prim) item refl (sym p)), λ p. absurd p)
array_of_flat w item (Array' shape items) e = absurd (omega (arith, e))

-- With as many arrays around each, the one is an instance of the other where what is inside is; with more around the
-- first, where what is inside the other is above all arrays.
abbrev pub IsInstanceAround : List Shape → ℕ → RefType → ℕ → RefType → Type 0
IsInstanceAround w m inner n other = ((m ≡ n) × IsInstanceOf w inner other) ⊎ ((n < m) × IsAboveArrays other)

pub around : (w : List Shape) (m n : ℕ) (inner other type of : RefType) → ref_depth inner ≡ 0 → ref_depth other ≡ 0
    → IsArrayAround m inner type → IsArrayAround n other of → IsInstanceOf w type of ↔ IsInstanceAround w m inner n other
around w zero zero inner other type of flat plain is are = (
  λ p. inl (refl, subst (λ (x : RefType). IsInstanceOf w inner x) are (subst (λ (x : RefType). IsInstanceOf w x of) is p)),
  λ q. elim q [
    | inl here ↦ subst (λ (x : RefType). IsInstanceOf w x of) (sym is) (subst (λ (x : RefType). IsInstanceOf w inner x) (sym are) here.1)
    | inr above ↦ absurd (omega (arith, above.0))
  ],
)
around w (suc m) zero inner other type of flat plain is are =
    let says = array_of_flat w is.0 other plain in (
      λ p. inr (omega arith, says.0 (subst (λ (x : RefType). IsInstanceOf w (Array is.0) x) are (subst (λ (x : RefType). IsInstanceOf w x of) is.1 p))),
      λ q. elim q [
        | inl here ↦ absurd (omega (arith, here.0))
        | inr above ↦ subst (λ (x : RefType). IsInstanceOf w x of) (sym is.1) (subst (λ (x : RefType). IsInstanceOf w (Array is.0) x) (sym are) (says.1 above.1))
      ],
    )
around w zero (suc n) inner other type of flat plain is are = (
  λ p.
      let own = subst (λ (A : Type 0). A) (of_array w type are.0) (subst (λ (x : RefType). IsInstanceOf w type x) are.1 p) in
      absurd (no_array inner own.0 flat (sym is ∙ own.1)),
  λ q. elim q [
    | inl here ↦ absurd (omega (arith, here.0))
    | inr above ↦ absurd (omega (arith, above.0))
  ],
)
around w (suc m) (suc n) inner other type of flat plain is are =
    let says = around w m n inner other is.0 are.0 flat plain is.2 are.2 in (
      λ p.
          let own = subst (λ (A : Type 0). A) (of_array w type are.0) (subst (λ (x : RefType). IsInstanceOf w type x) are.1 p) in
          let same : own.0 ≡ is.0 = one_item own.0 is.0 (sym own.1 ∙ is.1) in
          elim (says.0 (subst (λ (x : RefType). IsInstanceOf w x are.0) same own.2)) [
            | inl here ↦ inl (ap suc here.0, here.1)
            | inr above ↦ inr (omega (arith, above.0), above.1)
          ],
      λ q.
          let inside : IsInstanceAround w m inner n other = elim q [
            | inl here ↦ inl (omega (arith, here.0), here.1)
            | inr above ↦ inr (omega (arith, above.0), above.1)
          ] in
          subst (λ (x : RefType). IsInstanceOf w type x) (sym are.1) (subst (λ (A : Type 0). A) (sym (of_array w type are.0)) (is.0, is.1, says.1 inside)),
    )
