-- One class has the name.
use Rattle.jv_resolve.specs.Access.{IsInLine}
use Rattle.jv_resolve.proofs.ReferenceLemmas.{in_line_one}
use Rattle.jv_resolve.proofs.Tests.{never}
use Rattle.jv_resolve.proofs.access.is_in_line.Goals as goal

pub returns-in-None : goal.returns-in-None
returns-in-None c = never (IsInLine c.args.world.now c.args.c.number c.args.name.now) (λ p. c.in-None.ensures.none p.0 p.1)

pub returns-in-Some : goal.returns-in-Some
returns-in-Some c = (
  λ t. (c.in-Some.d.number, c.in-Some.ensures.found, c.are_in_line.ensures.0 t),
  λ p. c.are_in_line.ensures.1 (in_line_one c.args.world.now c.args.c.number c.in-Some.d.number c.args.name.now c.in-Some.ensures.world c.in-Some.ensures.found p),
)
