-- The class or array type of a verification type.
use Rattle.std.proofs.Common.{◌≡◌, ℕ, zero, suc, ◌≤◌, [], Option, Some, None, refl, sym, ap, ◌∙◌, inl, inr, arith}
use Rattle.std.specs.Prelude.{option_map}
use Rattle.std.specs.Option.{option_map_or}
use Rattle.jv_types.specs.declared.desc.RefType.{RefType}
use Rattle.jv_types.specs.declared.desc.RefType as refs
use Rattle.jv_types.specs.declared.frames.VType.{VType}
use Rattle.jv_types.specs.declared.frames.VType as types
use Rattle.jv_desc.specs.Texts.{ref_dims}
use Rattle.jv_desc.proofs.Fronts.{Layer, layers}
use Rattle.jv_desc.proofs.Layers.{ref_dims-Array}
use Rattle.jv_names.specs.Naming.{type_text}
use Rattle.jv_frames.specs.Types.{ref_vtype}
use Rattle.av_asm.specs.Mapping.{ref_of, object_text}

-- the type of an array is an array of the type of its items
pub ref_of-Array : (item : VType) → ref_of (types.Array item) ≡ option_map refs.Array (ref_of item)
unfolding Rattle.jv_types.specs.declared.frames.VType.TheBlock.shape-the_row-VType-0 Rattle.jv_types.specs.declared.frames.VType.TheBlock.hidden-the_row-VType-0 denote.Hole.Carrier.hidden
ref_of-Array item = refl

vtype-Array : (item : RefType) → ref_vtype (refs.Array item) ≡ types.Array (ref_vtype item)
unfolding Rattle.jv_types.specs.declared.desc.RefType.TheBlock.shape-the_row-RefType-0 Rattle.jv_types.specs.declared.desc.RefType.TheBlock.hidden-the_row-RefType-0 denote.Hole.Carrier.hidden
vtype-Array item = refl

-- an array whose items have a type, or have none
pub array_ref : (of item p : VType) (found : Option RefType) (made : RefType) → of ≡ types.Array item → p ≡ item → found ≡ ref_of p → found ≡ Some made → Some (refs.Array made) ≡ ref_of of
array_ref of item p found made is is_p is_found some =
    ap (option_map refs.Array) (sym some ∙ is_found ∙ ap ref_of is_p) ∙ sym (ref_of-Array item) ∙ ap ref_of (sym is)

pub array_none : (of item p : VType) (found : Option RefType) → of ≡ types.Array item → p ≡ item → found ≡ ref_of p → found ≡ None → None ≡ ref_of of
array_none of item p found is is_p is_found none =
    ap (option_map refs.Array) (sym none ∙ is_found ∙ ap ref_of is_p) ∙ sym (ref_of-Array item) ∙ ap ref_of (sym is)

-- the type of a class's or array's verification type is itself
back_step : (of : RefType) → ((item : RefType) → of ≡ refs.Array item → ref_of (ref_vtype item) ≡ Some item) → ref_of (ref_vtype of) ≡ Some of
back_step of items = by (layers of)
  where
    by : Layer of → ref_of (ref_vtype of) ≡ Some of
    by (inl c) = ap (λ (t : RefType). ref_of (ref_vtype t)) c.1 ∙ ap (λ (t : RefType). Some t) (sym c.1)
    by (inr (inl p)) = ap (λ (t : RefType). ref_of (ref_vtype t)) p.1 ∙ ap (λ (t : RefType). Some t) (sym p.1)
    by (inr (inr a)) =
        ap (λ (t : RefType). ref_of (ref_vtype t)) a.1 ∙ ap ref_of (vtype-Array a.0) ∙ ref_of-Array (ref_vtype a.0)
        ∙ ap (option_map refs.Array) (items a.0 a.1) ∙ ap (λ (t : RefType). Some t) (sym a.1)

back_below : (n : ℕ) (of : RefType) → ref_dims of ≤ n → ref_of (ref_vtype of) ≡ Some of
back_below zero of le = back_step of (λ item is. absurd (omega (arith, le, ap ref_dims is, ref_dims-Array item)))
back_below (suc n) of le = back_step of (λ item is. back_below n item (omega (arith, le, ap ref_dims is, ref_dims-Array item)))

pub ref_of-vtype : (of : RefType) → ref_of (ref_vtype of) ≡ Some of
ref_of-vtype of = back_below (ref_dims of) of (omega arith)

-- the text of its class item
pub object_text-vtype : (type : VType) (of : RefType) → type ≡ ref_vtype of → object_text type ≡ type_text of
object_text-vtype type of is = ap object_text is ∙ ap (λ (o : Option RefType). option_map_or type_text o []) (ref_of-vtype of)

pub text_found : (type : VType) (found : Option RefType) (of : RefType) → found ≡ ref_of type → found ≡ Some of → type_text of ≡ object_text type
text_found type found of is some = ap (λ (o : Option RefType). option_map_or type_text o []) (sym some ∙ is)

pub text_none : (type : VType) (found : Option RefType) → found ≡ ref_of type → found ≡ None → [] ≡ object_text type
text_none type found is none = ap (λ (o : Option RefType). option_map_or type_text o []) (sym none ∙ is)
