use Rattle.std.proofs.Common.{ℕ, ◌<◌}
use Rattle.calls_model.specs.First.Machine.{IsMain}
use Rattle.av_cli.proofs.calls.mains.declares_main.Given as goal

-- no method so far is main
abbrev pub invariant-loop-method : goal.invariant-loop-method
invariant-loop-method l = (place : ℕ) → place < l.method-index → ¬ IsMain l.class place
