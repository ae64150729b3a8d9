use Rattle.jv_world.proofs.MemberKeys.{AreIndexed-more}
use Rattle.jv_world.proofs.members.all_members.Goals as goal

pub loop-shape-preserved : goal.loop-shape-preserved
loop-shape-preserved c =
    AreIndexed-more c.args.shapes.now c.loop-shape.shape-index c.shape-item.result c.loop-shape.rows.items c.push.new.self.items c.in_ok-members_of.field-0
    c.loop-shape-test.true c.shape-item.is c.in_ok-members_of.ensures c.in_ok-push.ensures.items c.loop-shape.invariant
