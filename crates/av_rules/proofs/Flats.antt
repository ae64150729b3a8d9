-- Types by a base and as many dimensions.
use Rattle.std.proofs.Common.{◌≡◌, ◌+◌, ◌<◌, ◌≤◌, ℕ, List, arith, refl, sym, ap, ◌∙◌, subst}
use Rattle.jv_types.specs.declared.desc.PrimType.{PrimType}
use Rattle.jv_types.specs.declared.desc.RefType.{RefType, Class, PrimArray, Array, Array', Row_of-RefType, end_of-RefType, more_of-RefType}
use Rattle.jv_types.specs.declared.ids.ClassId.{ClassId}
use Rattle.jv_types.specs.declared.label.LibBase.TheVariants as bases
use Rattle.jv_types.specs.declared.shapes.Shape.{Shape}
use Rattle.jv_world.specs.Worlds.{AreNumbered, IsNamed}
use Rattle.av_rules.specs.declared.flat_type.FlatType.{FlatType}
use Rattle.av_rules.specs.FlatTypes.{IsFlat, IsFlatArray}

-- one dimension more
abbrev pub array_of : FlatType → FlatType
array_of inner = record { base = inner.base; dims = inner.dims + 1 }

-- the class of a number
abbrev class_flat : ℕ → FlatType
class_flat n = record { base = bases.Class (record { number = n }); dims = 0 }

-- an array is what its items are in one dimension more
pub IsFlat-Array : (w : List Shape) (item : RefType) (flat : FlatType)
    → IsFlat w (Array item) flat ≡ ((inner : FlatType) × IsFlat w item inner × (inner.dims < 255) × (flat ≡ array_of inner))
unfolding Rattle.jv_types.specs.declared.desc.RefType.TheBlock.shape-the_row-RefType-0 Rattle.jv_types.specs.declared.desc.RefType.TheBlock.hidden-the_row-RefType-0 denote.Hole.Carrier.hidden
IsFlat-Array w item flat = refl

-- a type is one flat type
mutual
  pub flat_one : (w : List Shape) → AreNumbered w → (t : RefType) (a b : FlatType) → IsFlat w t a → IsFlat w t b → a ≡ b
  flat_one w numbered (Class name) a b x y = x.2 ∙ ap class_flat (numbered.distinct x.0.number y.0.number name x.1 y.1) ∙ sym y.2
  flat_one w numbered (PrimArray prim) a b x y = x ∙ sym y
  flat_one w numbered (Array' shape items) a b x y = flat_items w numbered items a b x y

  flat_items : (w : List Shape) → AreNumbered w → {m : _} (items : Row_of-RefType m) (a b : FlatType) → IsFlatArray w items a → IsFlatArray w items b → a ≡ b
  flat_items w numbered end_of-RefType a b x y = absurd x
  flat_items w numbered (more_of-RefType item rest) a b x y = x.3 ∙ ap array_of (flat_one w numbered item x.0 y.0 x.1 y.1) ∙ sym y.3

-- an array, by its items
pub flat_by_item : (w : List Shape) (t item got : RefType) (inner flat : FlatType) → t ≡ Array item → got ≡ item → IsFlat w got inner
    → inner.dims < 255 → flat ≡ array_of inner → IsFlat w t flat
flat_by_item w t item got inner flat is read own few made =
    let P : RefType → Type 0 = λ r. IsFlat w r flat in
    let R : RefType → Type 0 = λ r. IsFlat w r inner in
    let Q : Type 0 → Type 0 = λ A. A in
    subst P (sym is) (subst Q (sym (IsFlat-Array w item flat)) (inner, subst R read own, few, made))

-- what an array is, by its items
item_of_flat : (w : List Shape) (t item got : RefType) (flat : FlatType) → t ≡ Array item → got ≡ item → IsFlat w t flat
    → (inner : FlatType) × IsFlat w got inner × (inner.dims < 255) × (flat ≡ array_of inner)
item_of_flat w t item got flat is read of =
    let P : RefType → Type 0 = λ r. IsFlat w r flat in
    let Q : Type 0 → Type 0 = λ A. A in
    let whole = subst Q (IsFlat-Array w item flat) (subst P is of) in
    let R : RefType → Type 0 = λ r. IsFlat w r whole.0 in
    (whole.0, subst R (sym read) whole.1, whole.2, whole.3)

-- where its items are none, an array is none
pub flat_none : (w : List Shape) (t item got : RefType) → t ≡ Array item → got ≡ item → ((inner : FlatType) → IsFlat w got inner → ⊥)
    → (flat : FlatType) → IsFlat w t flat → ⊥
flat_none w t item got is read none flat of =
    let whole = item_of_flat w t item got flat is read of in
    none whole.0 whole.1

-- where its items have 255 dimensions, it is none either
pub flat_full : (w : List Shape) (t item got : RefType) (inner : FlatType) → t ≡ Array item → got ≡ item
    → ((other : FlatType) → IsFlat w got other → other ≡ inner) → 255 ≤ inner.dims → (flat : FlatType) → IsFlat w t flat → ⊥
flat_full w t item got inner is read one full flat of =
    let whole = item_of_flat w t item got flat is read of in
    let same : whole.0.dims ≡ inner.dims = ap (λ (f : FlatType). f.dims) (one whole.0 whole.1) in
    let few : whole.0.dims < 255 = whole.2 in
    absurd (omega (arith, few, full, same))

-- and there is one, where there is one for its items
pub flat_array_one : (w : List Shape) (t item got : RefType) (inner flat : FlatType) → t ≡ Array item → got ≡ item
    → ((other : FlatType) → IsFlat w got other → other ≡ inner) → flat ≡ array_of inner → (other : FlatType) → IsFlat w t other → other ≡ flat
flat_array_one w t item got inner flat is read one made other of =
    let whole = item_of_flat w t item got other is read of in
    whole.3 ∙ ap array_of (one whole.0 whole.1) ∙ sym made

pub flat_class_one : (w : List Shape) (t : RefType) (name : List ℕ) (c : ClassId) → AreNumbered w → t ≡ Class name → IsNamed w c.number name
    → (other : FlatType) → IsFlat w t other → other ≡ record { base = bases.Class c; dims = 0 }
flat_class_one w t name c numbered is named other of =
    let P : RefType → Type 0 = λ r. IsFlat w r other in
    let whole : (d : ClassId) × IsNamed w d.number name × (other ≡ record { base = bases.Class d; dims = 0 }) = subst P is of in
    whole.2 ∙ ap class_flat (numbered.distinct whole.0.number c.number name whole.1 named)

pub flat_prim_one : (w : List Shape) (t : RefType) (prim : PrimType) → t ≡ PrimArray prim
    → (other : FlatType) → IsFlat w t other → other ≡ record { base = bases.Prim prim; dims = 1 }
flat_prim_one w t prim is other of =
    let P : RefType → Type 0 = λ r. IsFlat w r other in
    subst P is of

-- a class is what its name names
pub flat_class : (w : List Shape) (t : RefType) (name : List ℕ) (c : ClassId) (flat : FlatType) → t ≡ Class name → IsNamed w c.number name
    → flat ≡ record { base = bases.Class c; dims = 0 } → IsFlat w t flat
flat_class w t name c flat is named made =
    let P : RefType → Type 0 = λ r. IsFlat w r flat in
    subst P (sym is) (c, named, made)

-- a class that is nowhere is none
pub flat_absent : (w : List Shape) (t : RefType) (name : List ℕ) → t ≡ Class name → ((c : ℕ) → IsNamed w c name → ⊥) → (flat : FlatType) → IsFlat w t flat → ⊥
flat_absent w t name is none flat of =
    let P : RefType → Type 0 = λ r. IsFlat w r flat in
    let whole : (c : ClassId) × IsNamed w c.number name × (flat ≡ record { base = bases.Class c; dims = 0 }) = subst P is of in
    none whole.0.number whole.1
