-- What is found is declared.
use Rattle.std.proofs.Common.{◌≡◌}
use Rattle.jv_types.specs.declared.ids.MethodId.{MethodId}
use Rattle.jv_resolve.specs.Members.{DeclaresMethod, init_name}
use Rattle.jv_resolve.specs.Resolving.{IsInitKept, ResolvesInInterface}
use Rattle.jv_resolve.proofs.MethodLemmas.{interface_declares}
use Rattle.jv_resolve.proofs.Tests.{none_weaker, ok_none}
use Rattle.jv_resolve.proofs.methods.found_in_interface.Goals as goal

pub returns-then-is_init-clause-none : goal.returns-then-is_init-clause-none
returns-then-is_init-clause-none c =
    none_weaker c.own_init.result
    (c.args.r.now.name ≡ init_name → (m : MethodId) → DeclaresMethod c.args.world.now c.args.r.now.name c.args.r.now.desc m → IsInitKept c.args.world.now c.args.r.now m → ⊥)
    ((m : MethodId) → ResolvesInInterface c.args.world.now c.args.start.number c.args.r.now.name c.args.r.now.desc m → IsInitKept c.args.world.now c.args.r.now m → ⊥)
    (λ none m p kept. none (c.is_init.ensures.0 c.if-is_init.true) m (interface_declares c.args.world.now c.args.start.number c.args.r.now.name c.args.r.now.desc m p) kept) c.own_init.ensures.none

pub returns-clause-none : goal.returns-clause-none
returns-clause-none c =
    ok_none c.method_of_interface.result ((m : MethodId) → ResolvesInInterface c.args.world.now c.args.start.number c.args.r.now.name c.args.r.now.desc m → ⊥)
    ((m : MethodId) → ResolvesInInterface c.args.world.now c.args.start.number c.args.r.now.name c.args.r.now.desc m → IsInitKept c.args.world.now c.args.r.now m → ⊥)
    (λ none m p kept. none m p) c.method_of_interface.ensures.none
