-- The frames so far are written.
use Rattle.std.specs.Ordering.{nat_cmp}
use Rattle.std.specs.BTreeSet.{contains}
use Rattle.av_asm.proofs.Marks.{AreMapsSoFar}
use Rattle.av_asm.proofs.map_frames.map_frames.Given as goal

abbrev pub invariant-loop-row : goal.invariant-loop-row
invariant-loop-row l = AreMapsSoFar (contains nat_cmp l.targets) l.rows l.row-index l.base l.fn.pool l.pool l.frames.items
