-- A proper subtype is a subtype that is another class.
use Rattle.jv_world.specs.Worlds.{ProperSub}
use Rattle.jv_resolve.proofs.Hierarchy.{below_exactly, sub_from_proper}
use Rattle.jv_resolve.proofs.Tests.{denied, never}
use Rattle.jv_resolve.proofs.superinterfaces.is_below.Goals as goal

pub returns-then-not-sub : goal.returns-then-not-sub
returns-then-not-sub c =
    never (ProperSub c.args.world.now c.args.c.number c.args.d.number)
    (λ p. denied c.sub.result c.if-not-sub.true c.sub.ensures.exact.1 (sub_from_proper c.args.world.now c.args.c.number c.args.d.number p))

pub returns : goal.returns
returns c = below_exactly c.args.world.now c.args.c.number c.args.d.number c.sub.ensures.world (c.sub.ensures.exact.0 c.if-not-sub.false)
