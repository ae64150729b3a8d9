-- A type ends in the class that stands inside it.
use Rattle.std.proofs.Common.{◌≡◌, ℕ, zero, suc, ◌+◌, ◌⊎◌, inl, inr, List, Some, refl, sym, ap, ◌∙◌, arith}
use Rattle.std.proofs.lemmas.Option.{same_Some}
use Rattle.jv_types.specs.declared.desc.RefType.{RefType, Class, PrimArray, Array, Array'}
use Rattle.jv_types.specs.Types.{ref_depth}
use Rattle.jv_types.proofs.TypeKeys.{ref_depth-Array}
use Rattle.jv_equality.proofs.Layers.{ref_layers}
use Rattle.jv_two_worlds.specs.Types.{EndsIn, of_class, of_items}
use Rattle.av_named.specs.Inner.{inner_name}

pub inner_name-Array : (item : RefType) → inner_name (Array item) ≡ inner_name item
unfolding Rattle.jv_types.specs.declared.desc.RefType.TheBlock.shape-the_row-RefType-0 Rattle.jv_types.specs.declared.desc.RefType.TheBlock.hidden-the_row-RefType-0 denote.Hole.Carrier.hidden
inner_name-Array item = refl

pub inner_from_ends : (type : RefType) (name : List ℕ) → EndsIn type name → inner_name type ≡ Some name
inner_from_ends type name (of_class _ _ is) = ap inner_name is
inner_from_ends type name (of_items _ item _ is rest) = ap inner_name is ∙ inner_name-Array item ∙ inner_from_ends item name rest

ends_flat : (type : RefType) (name : List ℕ) → ref_depth type ≡ 0 → inner_name type ≡ Some name → EndsIn type name
ends_flat (Class own) name flat e = of_class (Class own) name (ap (λ (n : List ℕ). Class n) (same_Some own name e))
ends_flat (PrimArray prim) name flat e = absurd cc
ends_flat (Array' shape all) name flat e = absurd (omega arith)

ends_at : (n : ℕ) (type : RefType) (name : List ℕ) → ref_depth type ≡ n → inner_name type ≡ Some name → EndsIn type name
ends_at zero type name deep e = ends_flat type name deep e
ends_at (suc n) type name deep e = by (λ a d ea. ends_at n a name d ea) (ref_layers type)
  where
    by : ((a : RefType) → ref_depth a ≡ n → inner_name a ≡ Some name → EndsIn a name) → ((item : RefType) × (type ≡ Array item)) ⊎ (ref_depth type ≡ 0) → EndsIn type name
    by items (inr none) = absurd (omega arith)
    by items (inl a) =
        let one_less : ref_depth type ≡ ref_depth a.0 + 1 = ap ref_depth a.1 ∙ ref_depth-Array a.0 in
        let inside : inner_name type ≡ inner_name a.0 = ap inner_name a.1 ∙ inner_name-Array a.0 in
        of_items type a.0 name a.1 (items a.0 (omega arith) (sym inside ∙ e))

pub ends_from_inner : (type : RefType) (name : List ℕ) → inner_name type ≡ Some name → EndsIn type name
ends_from_inner type name e = ends_at (ref_depth type) type name refl e
