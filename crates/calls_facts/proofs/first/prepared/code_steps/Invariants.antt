use Rattle.std.proofs.Common.{◌≡◌, ℕ, ◌<◌, length, Some}
use Rattle.std.specs.List.{slice_get}
use Rattle.calls_form.specs.declared.object_class.Placed.{Placed}
use Rattle.calls_facts.specs.First.Depths.{depth_from}
use Rattle.calls_facts.specs.First.Prepared.{step_in}
use Rattle.calls_facts.proofs.first.prepared.code_steps.Given as goal

-- the first instructions, and how many words stand on the stack behind them
abbrev pub invariant-loop-placed : goal.invariant-loop-placed
invariant-loop-placed l = record {
  count : length l.steps.items ≡ l.placed-index;
  depth : l.depth ≡ depth_from l.class 0 l.code l.placed-index;
  each : (i : ℕ) (p : Placed) → i < l.placed-index → slice_get l.code i ≡ Some p → slice_get l.steps.items i ≡ Some (step_in l.class l.code i p);
}
