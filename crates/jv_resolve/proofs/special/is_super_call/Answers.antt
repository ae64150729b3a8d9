-- One class has the name.
use Rattle.std.proofs.Common.{sym}
use Rattle.jv_resolve.specs.Selecting.{IsSuperCall}
use Rattle.jv_resolve.proofs.SpecialLemmas.{super_one, super_none}
use Rattle.jv_resolve.proofs.Tests.{never, denied}
use Rattle.jv_resolve.proofs.special.is_super_call.Goals as goal

pub returns-in-None : goal.returns-in-None
returns-in-None c =
    never (IsSuperCall c.args.world.now c.args.from.number c.args.r.now c.args.name.now)
    (super_none c.args.world.now c.args.from.number c.args.r.now c.args.name.now c.in-Some.class_name.now c.in-Some.ensures c.in-None.ensures.none)

pub returns-in-Some-class : goal.returns-in-Some-class
returns-in-Some-class c = (
  λ t. (denied c.is_init.result c.if-is_init.false c.is_init.ensures.1, c.in-Some.class_name.now, c.in-Some-class.class.number, sym c.in-Some.ensures, c.in-Some-class.ensures.found, c.is_superclass.ensures.0 t),
  λ p. c.is_superclass.ensures.1 (super_one c.args.world.now c.args.from.number c.args.r.now c.args.name.now c.in-Some.class_name.now c.in-Some-class.class.number c.in-Some-class.ensures.world
      c.in-Some.ensures c.in-Some-class.ensures.found p),
)
