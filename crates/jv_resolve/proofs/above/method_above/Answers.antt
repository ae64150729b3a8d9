-- Neither the single one nor a first one.
use Rattle.jv_types.specs.declared.ids.MethodId.{MethodId}
use Rattle.jv_resolve.specs.DepthFirst.{LeadsUpTo}
use Rattle.jv_resolve.specs.Inheriting.{HasNoSingleDefault}
use Rattle.jv_resolve.specs.Resolving.{DeclaresFor, ResolvesAbove}
use Rattle.jv_resolve.proofs.AboveLemmas.{nothing_above}
use Rattle.jv_resolve.proofs.Tests.{ok_none, none_at}
use Rattle.jv_resolve.proofs.above.method_above.Goals as goal

pub returns-clause-none : goal.returns-clause-none
returns-clause-none c =
    ok_none c.first_above.result (LeadsUpTo c.args.world.now (DeclaresFor c.args.world.now c.args.c.number c.args.name.now c.args.desc.now) c.args.c.number → ⊥)
    ((m : MethodId) → ResolvesAbove c.args.world.now c.args.c.number c.args.name.now c.args.desc.now m → ⊥)
    (nothing_above c.args.world.now c.args.c.number c.args.name.now c.args.desc.now
    (none_at c.in_ok-m.field-0 (HasNoSingleDefault c.args.world.now c.args.c.number c.args.name.now c.args.desc.now) c.in_default.is c.in_ok-m.ensures.none))
    c.first_above.ensures.none
