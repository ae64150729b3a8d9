-- Why a method is refused.
use Rattle.std.proofs.Common.{ℕ, List}
use Rattle.jv_types.specs.declared.ids.MethodId.{MethodId}
use Rattle.jv_types.specs.declared.rule.Rule.TheVariants as rules
use Rattle.jv_types.specs.declared.shapes.Shape.{Shape}
use Rattle.jv_types.specs.declared.body.Body.{Body}
use Rattle.jv_types.specs.declared.frames.Frame.{Frame}
use Rattle.jv_attr.specs.declared.attr.CodeAttr.{CodeAttr}
use Rattle.jv_class.specs.declared.class_file.ClassFile.{ClassFile}
use Rattle.jv_frames.specs.Maps.{AreFramesOf, FailsFirstAt}
use Rattle.jv_typing.specs.TypeSafe.{FailsLeastAt}
use Rattle.jv_verify.specs.declared.refusal.VerifyRefusal.{VerifyRefusal}
use Rattle.jv_verify.specs.declared.refusal.VerifyRefusal.TheVariants as refusal
use Rattle.jv_verify.specs.Verified.{IsCodeOf, IsCause, no_maps, no_table}
use Rattle.jv_verify.specs.Steps.Checking.{RefusedBy}

pub by_maps : (w : List Shape) (class : ClassFile) (id : MethodId) (body : Body) (code : CodeAttr) (e : VerifyRefusal) → IsCodeOf w class id code
    → RefusedBy rules.StackMap (FailsFirstAt w id class.pool code body) e → IsCause w class id body e
by_maps w class id body code (refusal.At rule pc) is h = no_maps code is h.0 h.1
by_maps w class id body code refusal.Memory is h = tt

pub by_types : (w : List Shape) (class : ClassFile) (id : MethodId) (body : Body) (code : CodeAttr) (maps : List (ℕ × Frame)) (e : VerifyRefusal) → IsCodeOf w class id code
    → AreFramesOf w id class.pool code body maps → RefusedBy rules.TypeRule (FailsLeastAt w id body maps) e → IsCause w class id body e
by_types w class id body code maps (refusal.At rule pc) is are h = no_table code maps is h.0 are h.1
by_types w class id body code maps refusal.Memory is are h = tt
