-- By the kind of the start.
use Rattle.jv_types.specs.declared.ids.MethodId.{MethodId}
use Rattle.jv_resolve.specs.Selecting.{IsSpecialCandidate, SelectsBy, SelectsInInterface, SelectsFrom}
use Rattle.jv_resolve.proofs.SpecialLemmas.{from_interface, from_class}
use Rattle.jv_resolve.proofs.Tests.{ok_none, denied}
use Rattle.jv_resolve.proofs.special.select_from.Goals as goal

pub returns-then-is_interface_class-clause-none : goal.returns-then-is_interface_class-clause-none
returns-then-is_interface_class-clause-none c =
    ok_none c.select_in_interface.result ((s : MethodId) → SelectsInInterface c.args.world.now c.args.resolved c.args.name.now c.args.desc.now c.args.start.number s → ⊥)
    ((s : MethodId) → SelectsFrom c.args.world.now c.args.resolved c.args.name.now c.args.desc.now c.args.start.number s → ⊥)
    (from_interface c.args.world.now c.args.resolved c.args.name.now c.args.desc.now c.args.start.number (c.is_interface_class.ensures.0 c.if-is_interface_class.true)) c.select_in_interface.ensures.none

pub returns-clause-none : goal.returns-clause-none
returns-clause-none c =
    ok_none c.select_by.result
    ((s : MethodId) → SelectsBy c.args.world.now (IsSpecialCandidate c.args.world.now c.args.resolved c.args.name.now c.args.desc.now) c.args.start.number c.args.name.now c.args.desc.now s → ⊥)
    ((s : MethodId) → SelectsFrom c.args.world.now c.args.resolved c.args.name.now c.args.desc.now c.args.start.number s → ⊥)
    (from_class c.args.world.now c.args.resolved c.args.name.now c.args.desc.now c.args.start.number
    (denied c.is_interface_class.result c.if-is_interface_class.false c.is_interface_class.ensures.1)) c.select_by.ensures.none
