-- One link, and then any number.
use Rattle.jv_resolve.specs.Selecting.{IsSuperclass}
use Rattle.jv_resolve.proofs.SpecialLemmas.{superclass_from, superclass_of, no_superclass}
use Rattle.jv_resolve.proofs.Tests.{never}
use Rattle.jv_resolve.proofs.special.is_superclass.Goals as goal

pub returns-in-None : goal.returns-in-None
returns-in-None c = never (IsSuperclass c.args.world.now c.args.c.number c.args.d.number) (no_superclass c.args.world.now c.args.c.number c.args.d.number c.in-None.ensures.none)

pub returns-in-Some : goal.returns-in-Some
returns-in-Some c = (
  λ t. superclass_of c.args.world.now c.args.c.number c.in-Some.parent.number c.args.d.number c.in-Some.ensures.found (c.is_subclass.ensures.exact.0 t),
  λ p. c.is_subclass.ensures.exact.1 (superclass_from c.args.world.now c.args.c.number c.in-Some.parent.number c.args.d.number c.in-Some.ensures.world c.in-Some.ensures.found p),
)
