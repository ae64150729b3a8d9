-- The verification type of an array of references.
use Rattle.std.proofs.Common.{◌≡◌, refl, sym, ap, ◌∙◌}
use Rattle.jv_types.specs.declared.desc.RefType.{RefType, Array}
use Rattle.jv_types.specs.declared.frames.VType as types
use Rattle.jv_frames.specs.Types.{ref_vtype}

-- the type of an array of references is that of an array of their types
pub ref_vtype-Array : (item : RefType) → ref_vtype (Array item) ≡ types.Array (ref_vtype item)
unfolding Rattle.jv_types.specs.declared.desc.RefType.TheBlock.shape-the_row-RefType-0 Rattle.jv_types.specs.declared.desc.RefType.TheBlock.hidden-the_row-RefType-0 denote.Hole.Carrier.hidden
ref_vtype-Array item = refl

pub array_vtype : (of item p : RefType) (made array : types.VType) → of ≡ Array item → p ≡ item → made ≡ ref_vtype p → array ≡ types.Array made → array ≡ ref_vtype of
array_vtype of item p made array is is_p is_made is_array =
    is_array ∙ ap types.Array (is_made ∙ ap ref_vtype is_p) ∙ sym (ref_vtype-Array item) ∙ ap ref_vtype (sym is)
