-- What was read, before what is still read, is the whole.
use Rattle.std.proofs.Common.{◌≡◌, ◌-◌, ◌≤◌, length}
use Rattle.calls_form.specs.ClassesBodies.{target_in, placed_from}
use Rattle.calls_form.proofs.ClassesLoops.{with_front}
use Rattle.calls_form.proofs.code_steps.read_instructions.Given as goal

abbrev pub invariant-loop-rest : goal.invariant-loop-rest
invariant-loop-rest l = record {
  within : length l.rest ≤ length l.bytes;
  so_far : with_front l.placed.items (placed_from (target_in l.targets) (length l.bytes - length l.rest) l.rest) ≡ placed_from (target_in l.targets) 0 l.bytes;
}

abbrev pub decreases-loop-rest : goal.decreases-loop-rest
decreases-loop-rest l = length l.rest
