-- What the spelling, the number of arrays and the name of an array are.
use Rattle.std.proofs.Common.{◌≡◌, ℕ, ◌+◌, List, [], ◌∷◌, ◌++◌, refl, sym, ap, ◌∙◌, append_assoc}
use Rattle.jv_types.specs.declared.desc.RefType.{RefType, Class, PrimArray, Array}
use Rattle.jv_desc.specs.Texts.{ref_text, ref_dims, is_named}

pub ref_text-Array : (item : RefType) → ref_text (Array item) ≡ 91 ∷ ref_text item
unfolding Rattle.jv_types.specs.declared.desc.RefType.TheBlock.shape-the_row-RefType-0 Rattle.jv_types.specs.declared.desc.RefType.TheBlock.hidden-the_row-RefType-0 denote.Hole.Carrier.hidden
ref_text-Array item = refl

pub ref_dims-Array : (item : RefType) → ref_dims (Array item) ≡ ref_dims item + 1
unfolding Rattle.jv_types.specs.declared.desc.RefType.TheBlock.shape-the_row-RefType-0 Rattle.jv_types.specs.declared.desc.RefType.TheBlock.hidden-the_row-RefType-0 denote.Hole.Carrier.hidden
ref_dims-Array item = refl

pub is_named-Array : (item : RefType) → is_named (Array item) ≡ is_named item
unfolding Rattle.jv_types.specs.declared.desc.RefType.TheBlock.shape-the_row-RefType-0 Rattle.jv_types.specs.declared.desc.RefType.TheBlock.hidden-the_row-RefType-0 denote.Hole.Carrier.hidden
is_named-Array item = refl

-- the text of an array, after its bracket
pub put_array : (of item got : RefType) (old mid new : List ℕ) → of ≡ Array item → got ≡ item → mid ≡ old ++ 91 ∷ [] → new ≡ mid ++ ref_text got → new ≡ old ++ ref_text of
put_array of item got old mid new eo eg em en =
    en ∙ ap (λ (z : List ℕ). z ++ ref_text got) em ∙ append_assoc old (91 ∷ []) (ref_text got)
    ∙ ap (λ (z : List ℕ). old ++ z) (ap (λ (z : RefType). 91 ∷ ref_text z) eg ∙ sym (ref_text-Array item) ∙ sym (ap ref_text eo))
