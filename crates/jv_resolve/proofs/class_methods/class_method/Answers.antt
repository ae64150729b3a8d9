-- Neither in a superclass nor above.
use Rattle.jv_types.specs.declared.ids.MethodId.{MethodId}
use Rattle.jv_resolve.specs.Resolving.{ResolvesAbove, ResolvesInClass}
use Rattle.jv_resolve.proofs.AboveLemmas.{nothing_in_class}
use Rattle.jv_resolve.proofs.Tests.{ok_none}
use Rattle.jv_resolve.proofs.class_methods.class_method.Goals as goal

pub returns-clause-none : goal.returns-clause-none
returns-clause-none c =
    ok_none c.method_above.result ((m : MethodId) → ResolvesAbove c.args.world.now c.args.c.number c.args.name.now c.args.desc.now m → ⊥)
    ((m : MethodId) → ResolvesInClass c.args.world.now c.args.c.number c.args.name.now c.args.desc.now m → ⊥)
    (nothing_in_class c.args.world.now c.args.c.number c.args.name.now c.args.desc.now c.in_default.ensures.none) c.method_above.ensures.none
