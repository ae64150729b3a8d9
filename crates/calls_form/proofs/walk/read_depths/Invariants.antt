-- The depths so far, and those that are still read, are all of them.
use Rattle.std.proofs.Common.{◌≡◌, ◌≤◌, [], ◌∷◌, ◌++◌, length, drop}
use Rattle.calls_form.specs.ClassesWalk.{frame_of, depths_from}
use Rattle.calls_form.proofs.ClassesLoops.{with_front}
use Rattle.calls_form.proofs.walk.read_depths.Given as goal

abbrev pub invariant-loop-placed : goal.invariant-loop-placed
invariant-loop-placed l = record {
  within : length l.kinds.stack.items ≤ l.method.max_stack;
  so_far : with_front l.depths.items (depths_from l.class l.method (frame_of l.kinds) (drop l.placed-index l.before ++ l.last ∷ [])) ≡ depths_from l.class l.method (frame_of l.fn.first) (l.before ++ l.last ∷ []);
}
