-- Tests of whether the counts in an attribute fit two bytes.
use Rattle.std.specs.Prelude.{Bool, true, ◌&&◌, nat_lt, List, length, Option, Some}
use Rattle.std.specs.List.{list_all}
use Rattle.jv_table.specs.declared.class_tables.FrameGroup.{FrameGroup}
use Rattle.jv_table.specs.declared.class_tables.FrameGroup.TheVariants.{Full}
use Rattle.jv_attr.specs.declared.frame.MapFrame.{MapFrame}
use Rattle.jv_attr.specs.declared.attr.Attr.{Attr}
use Rattle.jv_attr.specs.declared.attr.AttrBody.{AttrBody}
use Rattle.jv_attr.specs.declared.attr.AttrBody.TheVariants.{Code, Maps, Raw}
use Rattle.jv_attr.specs.declared.attr.CodeAttr.{CodeAttr}
use Rattle.std.specs.declared.convert.Infallible.{Infallible as NoCode}
use Rattle.jv_attr.specs.FrameText.{group_of}

abbrev pub has_few_parts : Option FrameGroup → MapFrame → Bool
has_few_parts (Some Full) f = nat_lt (length f.locals) 65536 && nat_lt (length f.stack) 65536
has_few_parts _ f = true

unfoldable pub has_few_types : MapFrame → Bool
has_few_types f = has_few_parts (group_of f.kind) f

abbrev pub are_few_frames : List MapFrame → Bool
are_few_frames frames = nat_lt (length frames) 65536 && list_all has_few_types frames

abbrev pub is_body_few : {C : Type 0} → (C → Bool) → AttrBody C → Bool
is_body_few few (Code c) = few c
is_body_few few (Maps frames) = are_few_frames frames
is_body_few few (Raw bytes) = true

abbrev pub is_no_few : NoCode → Bool
is_no_few c = elim c [ ]

unfoldable pub is_inner_few : Attr NoCode → Bool
is_inner_few a = is_body_few is_no_few a.body

abbrev pub is_few_code : CodeAttr → Bool
is_few_code c = (nat_lt (length c.handlers) 65536 && nat_lt (length c.attrs) 65536) && list_all is_inner_few c.attrs

abbrev pub has_few : Attr CodeAttr → Bool
has_few a = is_body_few is_few_code a.body
