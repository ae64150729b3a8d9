-- Tests of what collection asks of an application.
use Rattle.std.specs.Prelude.{◌≡◌, ℕ, Bool, true, false, ◌&&◌, nat_eq, nat_le, List}
use Rattle.std.specs.List.{list_all}
use Rattle.std.specs.Cmp.Lexicographic.{pointwise}
use Rattle.jv_types.specs.NameForms.{is_class_name}
use Rattle.jv_types.specs.declared.desc.RefType.{RefType}
use Rattle.jv_types.specs.declared.instruction.Arg.{Arg}
use Rattle.jv_types.specs.declared.instruction.Arg.TheVariants as args
use Rattle.jv_types.specs.declared.instruction.Const.{Const}
use Rattle.jv_types.specs.declared.instruction.Const.TheVariants as consts
use Rattle.jv_types.specs.declared.instruction.Insn.{Insn}
use Rattle.jv_types.specs.declared.shapes.Shape.{Shape}
use Rattle.jv_desc.specs.Texts.{ref_dims}
use Rattle.av_collected.specs.declared.method_body.MethodBody.{MethodBody}
use Rattle.av_collected.specs.Conditions.{IsMethodBody}
use Rattle.tests_collect.specs.Bounds.{has_small_field, has_small_method, has_small_parts, is_small_type}

-- the class is marked as one of the application, and its members have types of at most 255 dimensions
unfoldable pub is_of_application : Shape → Bool
is_of_application shape = shape.application && (list_all has_small_field shape.fields && list_all has_small_method shape.methods)

-- whether an array of this type has at most 255 dimensions
unfoldable pub is_small_item : RefType → Bool
is_small_item type = nat_le (ref_dims type) 254

abbrev pub is_small_const : Const → Bool
is_small_const (consts.Class type) = is_small_item type
is_small_const _ = false

-- whether the types that operands name, and arrays of them, have at most 255 dimensions; other operands are none of
-- these tests
abbrev pub is_small_arg : Arg → Bool
is_small_arg (args.Constant constant) = is_small_const constant
is_small_arg (args.Class type) = is_small_item type
is_small_arg (args.Multi type made) = is_small_item type
is_small_arg (args.Field r) = is_small_type r.desc
is_small_arg (args.Method r) = is_small_item r.class && has_small_parts r.desc
is_small_arg _ = false

-- whether the class has this name
abbrev pub is_class_named : List ℕ → Shape → Bool
is_class_named name shape = pointwise nat_eq shape.name name

-- whether this is the name of a class
abbrev pub is_class_text : List ℕ → Bool
is_class_text text = is_class_name text

abbrev pub is_small_row : ℕ × Insn → Bool
is_small_row row = is_small_arg row.1.arg

-- the body is that of a method of these classes, and its instructions name small types
pub record IsFitBody (shapes : List Shape) (method : MethodBody) : Type 0 where
  pub of : IsMethodBody shapes method
  pub small : list_all is_small_row method.body.insns ≡ true
