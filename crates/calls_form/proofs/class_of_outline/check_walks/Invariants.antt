-- The methods before this one have their walks.
use Rattle.std.proofs.Common.{◌≡◌, ℕ, ◌<◌, List, Some}
use Rattle.std.specs.List.{slice_get}
use Rattle.calls_form.specs.declared.object_class.Method.{Method}
use Rattle.calls_form.specs.Kinds.{Frame, IsWalk}
use Rattle.calls_form.proofs.class_of_outline.check_walks.Given as goal

abbrev pub invariant-loop-method : goal.invariant-loop-method
invariant-loop-method l = (i : ℕ) (m : Method) → i < l.method-index → slice_get l.class.methods i ≡ Some m → (frames : List Frame) × IsWalk l.class m frames
