use Rattle.std.specs.Cmp.Lexicographic.{nat_list_cmp_total}
use Rattle.av_tables.proofs.Sets.{left_all, left_more, left_none, taken_out}
use Rattle.av_tables.proofs.Rising.{names_apart}
use Rattle.av_tables.proofs.names.leave_out.Goals as goal

pub loop-shape-init : goal.loop-shape-init
loop-shape-init c = left_none c.args.app.now c.args.set.now.keys

pub loop-shape-preserved : goal.loop-shape-preserved
loop-shape-preserved c =
    left_more c.args.app.now c.loop-shape.shape-index c.shape-item.result c.args.set.now.keys c.loop-shape.set.keys c.remove.new.self.keys c.loop-shape-test.true c.shape-item.is
    (taken_out nat_list_cmp_total names_apart c.loop-shape.set c.remove.new.self c.shape-item.result.name c.remove.ensures.updates.0) c.loop-shape.invariant

pub returns : goal.returns
returns c = left_all c.args.app.now c.loop-shape.shape-index c.args.set.now.keys c.loop-shape.set.keys c.loop-shape-test.false c.loop-shape.invariant
