-- One class has the name.
use Rattle.jv_resolve.specs.References.{IsInterfaceType}
use Rattle.jv_resolve.proofs.ReferenceLemmas.{names_none, names_one}
use Rattle.jv_resolve.proofs.Tests.{never}
use Rattle.std.proofs.Common.{sym}
use Rattle.jv_resolve.proofs.references.names_interface.Goals as goal

pub returns-in-None : goal.returns-in-None
returns-in-None c = never (IsInterfaceType c.args.world.now c.args.type_of.now) (names_none c.args.world.now c.args.type_of.now c.in-Some.name.now c.in-Some.ensures c.in-None.ensures.none)

pub returns-in-Some-class : goal.returns-in-Some-class
returns-in-Some-class c = (
  λ t. (c.in-Some.name.now, c.in-Some-class.c.number, sym c.in-Some.ensures, c.in-Some-class.ensures.found, c.is_interface_class.ensures.0 t),
  λ p. c.is_interface_class.ensures.1 (names_one c.args.world.now c.args.type_of.now c.in-Some.name.now c.in-Some-class.c.number c.in-Some-class.ensures.world c.in-Some.ensures c.in-Some-class.ensures.found p),
)
