use Rattle.jv_class.specs.Shapes.{IsMethodShape}
use Rattle.jv_class.proofs.shaping.methods_of.Goals as goal
use Rattle.jv_lists.proofs.Zips.{zip_more_of}

pub loop-member-preserved : goal.loop-member-preserved
loop-member-preserved c =
    rw c.in_ok-push.ensures.items (zip_more_of (IsMethodShape c.args.pool.now) c.args.members.now c.loop-member.methods.items c.loop-member.member-index c.member-item.result c.in_ok-method.method c.loop-member-test.true c.member-item.is c.loop-member.invariant c.in_ok-method.ensures)
