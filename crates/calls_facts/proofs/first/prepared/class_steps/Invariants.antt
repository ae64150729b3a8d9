use Rattle.std.proofs.Common.{◌≡◌, ℕ, ◌<◌, List, length, Some}
use Rattle.std.specs.List.{slice_get}
use Rattle.calls_form.specs.declared.object_class.Method.{Method}
use Rattle.calls_facts.specs.declared.first.step.Step.{Step}
use Rattle.calls_facts.specs.First.Prepared.{AreStepsOf}
use Rattle.calls_facts.proofs.first.prepared.class_steps.Given as goal

-- the instructions of the first methods
abbrev pub invariant-loop-method : goal.invariant-loop-method
invariant-loop-method l = record {
  count : length l.rows.items ≡ l.method-index;
  each : (m : ℕ) (x : Method) → m < l.method-index → slice_get l.class.methods m ≡ Some x → (row : List Step) × (slice_get l.rows.items m ≡ Some row) × AreStepsOf l.class x.code row;
}
