-- What an answer says of a method, and of all methods, that it refuses.
use Rattle.std.specs.Prelude.{◌≡◌, ℕ, List, Option, None, Some, IsTrue}
use Rattle.jv_types.specs.declared.frames.FramedBody.{FramedBody}
use Rattle.jv_types.specs.declared.ids.MethodId.{MethodId}
use Rattle.jv_types.specs.declared.rule.Rule.{Rule}
use Rattle.jv_types.specs.declared.shapes.Shape.{Shape}
use Rattle.jv_class.specs.ClassTexts.{is_native}
use Rattle.jv_class.specs.MethodCodes.{code_in}
use Rattle.jv_class.specs.declared.class_file.ClassFile.{ClassFile}
use Rattle.jv_class.specs.declared.class_file.Member.{Member}
use Rattle.av_program.specs.declared.accept_stop.AcceptStop.{AcceptStop}
use Rattle.av_program.specs.declared.accept_stop.AcceptStop.TheVariants as stops
use Rattle.av_stops.specs.MethodRules.{FailsMethod, IsAccepted, IsPlaceOf, StopsAtMethod}
use Rattle.av_method_rules.specs.declared.outcome.MethodStop.{MethodStop}
use Rattle.av_method_rules.specs.declared.outcome.MethodStop.TheVariants.{At, Memory}

-- the rule and the offset that it names are the first that fail
abbrev pub IsMethodStop : List Shape → ClassFile → MethodId → Member → MethodStop → Type 0
IsMethodStop w class id member (At rule pc) = FailsMethod w class id member rule pc
IsMethodStop w class id member Memory = Unit {0}

-- a method that has no code, and is not native
pub record IsWithoutCode (member : Member) : Type 0 where
  pub none : code_in member.attrs ≡ None
  pub not_native : ¬ IsTrue (is_native member)

-- the method passes: it has no code, or is accepted with its frames
abbrev pub IsPassed : List Shape → ClassFile → MethodId → Member → Option FramedBody → Type 0
IsPassed w class id member None = IsWithoutCode member
IsPassed w class id member (Some framed) = IsAccepted w class id member framed

-- a refusal by this rule, at this offset of a method
abbrev pub IsRefusalAt : ClassFile → Member → Rule → ℕ → AcceptStop → Type 0
IsRefusalAt class member rule pc (stops.Refused refusal) = (refusal.rule ≡ rule) × IsPlaceOf class member pc refusal.place
IsRefusalAt class member rule pc (stops.Limit quantity number) = ⊥
IsRefusalAt class member rule pc (stops.ReadFault name) = ⊥
IsRefusalAt class member rule pc stops.Memory = Unit {0}

-- the rule and the place that it names are where the methods of these classes stop
abbrev pub AreStopped : List Shape → List ClassFile → AcceptStop → Type 0
AreStopped w classes (stops.Refused refusal) = StopsAtMethod w classes refusal.rule refusal.place
AreStopped w classes (stops.Limit quantity number) = ⊥
AreStopped w classes (stops.ReadFault name) = ⊥
AreStopped w classes stops.Memory = Unit {0}
