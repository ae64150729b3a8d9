-- Tests of the bounds of what a library's class declares.
use Rattle.std.specs.Prelude.{Bool, true, ◌&&◌, nat_le, Option, None, Some}
use Rattle.std.specs.List.{list_all}
use Rattle.jv_types.specs.declared.desc.Desc.{Desc}
use Rattle.jv_types.specs.declared.desc.MethodDesc.{MethodDesc}
use Rattle.jv_types.specs.declared.shapes.FieldShape.{FieldShape}
use Rattle.jv_types.specs.declared.shapes.MethodShape.{MethodShape}
use Rattle.av_collected.specs.Types.{dims_of}

-- whether a type has at most 255 dimensions
unfoldable pub is_small_type : Desc → Bool
is_small_type type = nat_le (dims_of type) 255

abbrev pub is_small_result : Option Desc → Bool
is_small_result None = true
is_small_result (Some type) = is_small_type type

-- whether each parameter and the result have
unfoldable pub has_small_parts : MethodDesc → Bool
has_small_parts desc = list_all is_small_type desc.params && is_small_result desc.result

unfoldable pub has_small_field : FieldShape → Bool
has_small_field field = is_small_type field.desc

unfoldable pub has_small_method : MethodShape → Bool
has_small_method method = has_small_parts method.desc
