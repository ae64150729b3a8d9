-- The shape that was looked at is the method's.
use Rattle.jv_resolve.proofs.MembersLemmas.{concrete_from}
use Rattle.jv_resolve.proofs.Tests.{denied}
use Rattle.jv_resolve.proofs.superinterfaces.is_default.Goals as goal

pub returns-then-not-is_abstract : goal.returns-then-not-is_abstract
returns-then-not-is_abstract c = (
  λ t. (concrete_from c.args.world.now c.args.m c.method_shape.result.now c.method_shape.ensures (denied c.is_abstract.result c.if-not-is_abstract.true c.is_abstract.ensures.1), c.is_specific.ensures.0 t),
  λ p. c.is_specific.ensures.1 p.1,
)
