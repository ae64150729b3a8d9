use Rattle.jv_world.proofs.MemberKeys.{AreMembers-at}
use Rattle.jv_world.proofs.world.World.field_place.Goals as goal

pub field_place-requires : goal.field_place-requires
field_place-requires c =
    AreMembers-at c.self.inside.shapes.items c.self.inside.members.items c.args.c.number c.shape.result.now c.index-members.result.now
    c.self.invariant.members_are (rw (← c.self.view_is) at c.requires) (rw (← c.self.view_is) at c.shape.ensures.shape) c.index-members.ensures
