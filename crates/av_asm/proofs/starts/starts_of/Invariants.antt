-- The starts of the instructions so far.
use Rattle.std.proofs.Common.{◌≤◌}
use Rattle.av_asm.proofs.Offsets.{AreStartsSoFar}
use Rattle.av_asm.proofs.starts.starts_of.Given as goal

abbrev pub invariant-loop-step : goal.invariant-loop-step
invariant-loop-step l = record { so_far : AreStartsSoFar l.steps l.step-index l.pc l.starts.items; fits : l.pc ≤ 65535 }
