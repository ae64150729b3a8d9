use Rattle.std.proofs.Common.{◌≡◌, ◌==◌, drop}
use Rattle.std.specs.List.{find}
use Rattle.calls_facts.specs.First.Forcing.{step_of}
use Rattle.calls_facts.proofs.first.forcing.step_of.Given as goal

-- the instruction is the first one of those that are left
abbrev pub invariant-loop-step : goal.invariant-loop-step
invariant-loop-step l = find (λ st. st.pc == l.pc) (drop l.step-index l.step-items) ≡ step_of l.steps l.fn.method l.pc
