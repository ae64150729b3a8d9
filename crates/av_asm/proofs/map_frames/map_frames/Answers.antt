-- Each turn of the loop is one frame.
use Rattle.std.proofs.Common.{sym, ◌∙◌}
use Rattle.std.specs.Ordering.{nat_cmp}
use Rattle.std.specs.BTreeSet.{contains}
use Rattle.av_asm.proofs.Marks.{maps_over}
use Rattle.av_asm.proofs.map_frames.map_frames.Goals as goal

pub loop-row-preserved-then-not-contains : goal.loop-row-preserved-then-not-contains
loop-row-preserved-then-not-contains c =
    maps_over (contains nat_cmp c.args.targets.now) c.args.rows.now c.loop-row.row-index c.loop-row.base c.row-item.result c.args.pool.now c.loop-row.pool c.loop-row.frames.items c.loop-row-test.true c.row-item.is
    (sym c.contains.ensures ∙ c.if-not-contains.true) c.loop-row.invariant
