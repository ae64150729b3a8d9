-- None is declared.
use Rattle.jv_resolve.specs.Resolving.{DeclaresFieldIn}
use Rattle.jv_resolve.proofs.Tests.{never}
use Rattle.jv_resolve.proofs.fields.declares_field.Goals as goal

pub returns-in-None : goal.returns-in-None
returns-in-None c = never (DeclaresFieldIn c.args.world.now c.args.name.now c.args.desc.now c.args.c.number) (λ p. c.in-None.ensures.none p.0 p.2 p.1)
