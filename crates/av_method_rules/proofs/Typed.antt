-- A method whose instructions, stack map and types keep their rules is accepted.
use Rattle.std.proofs.Common.{◌≡◌, List, ℕ, Option, None, Some, IfSome, sym, subst}
use Rattle.std.specs.Prelude.{IfNone}
use Rattle.std.proofs.lemmas.Option.{none-some}
use Rattle.jv_types.specs.declared.body.Body.{Body}
use Rattle.jv_types.specs.declared.frames.FramedBody.{FramedBody}
use Rattle.jv_types.specs.declared.ids.MethodId.{MethodId}
use Rattle.jv_types.specs.declared.rule.Rule.{Rule}
use Rattle.jv_types.specs.declared.shapes.Shape.{Shape}
use Rattle.jv_attr.specs.declared.attr.CodeAttr.{CodeAttr}
use Rattle.jv_class.specs.declared.class_file.ClassFile.{ClassFile}
use Rattle.jv_class.specs.declared.class_file.Member.{Member}
use Rattle.jv_class.specs.MethodCodes.{code_in}
use Rattle.jv_read.proofs.Fronts.{some_is}
use Rattle.jv_verify.specs.Verified.{IsVerified}
use Rattle.av_insn_rules.specs.InsnRules.{FailsFirst, FailsNowhere, Keeps, insn_rules}
use Rattle.av_stops.specs.Bodies.{HasDecoded}
use Rattle.av_stops.specs.MethodRules.{IsAccepted, KeepsIn, by_form}
use Rattle.av_method_rules.specs.declared.outcome.MethodStop.{MethodStop}
use Rattle.av_method_rules.specs.declared.outcome.MethodStop.TheVariants.{At, Memory}
use Rattle.av_method_rules.specs.Stopping.{IsMethodStop}
use Rattle.av_method_rules.specs.Steps.Decoded.{IsCodeStop}

pub accepted : (w : List Shape) (class : ClassFile) (id : MethodId) (member : Member) (code : CodeAttr) (body : Body) (framed : FramedBody) → HasDecoded class member code body
    → FailsNowhere (KeepsIn w class id) insn_rules body → IsVerified w class id body framed → IsAccepted w class id member framed
accepted w class id member code body framed decoded keeps verified = record {
  code = code;
  decoded = subst (HasDecoded class member code) (sym verified.same_body) decoded;
  keeps = subst (FailsNowhere (KeepsIn w class id) insn_rules) (sym verified.same_body) keeps;
  verified = subst (λ (b : Body). IsVerified w class id b framed) (sym verified.same_body) verified;
}

-- the first rule on instructions that fails, as it was found
pub first_at : (w : List Shape) (class : ClassFile) (id : MethodId) (body : Body) (o : Option (Rule × ℕ)) (rule : Rule) (pc n : ℕ) → o ≡ Some (rule, pc) → n ≡ pc
    → IfSome o (λ at. FailsFirst (Keeps w id.class.number class.major) insn_rules body at.0 at.1) → FailsFirst (KeepsIn w class id) insn_rules body rule n
first_at w class id body None rule pc n is same found = absurd (none-some (rule, pc) is)
first_at w class id body (Some at) rule pc n is same found =
    let one : at ≡ (rule, pc) = some_is at (rule, pc) is in
    subst (λ (k : ℕ). FailsFirst (Keeps w id.class.number class.major) insn_rules body rule k) (sym same)
    (subst (λ (a : Rule × ℕ). FailsFirst (Keeps w id.class.number class.major) insn_rules body a.0 a.1) one found)

pub none_at : {A : Type 0} (o : Option A) (P : Type 0) → o ≡ None → IfNone o P → P
none_at None P is p = p
none_at (Some x) P is p = absurd (none-some x (sym is))

-- what is told of a code that doesn't decode
pub code_stop : (w : List Shape) (class : ClassFile) (id : MethodId) (member : Member) (code : CodeAttr) (stop : MethodStop) → code_in member.attrs ≡ Some code → IsCodeStop class code stop
    → IsMethodStop w class id member stop
code_stop w class id member code (At rule pc) has at = by_form code has at.0 at.1
code_stop w class id member code Memory has at = tt
