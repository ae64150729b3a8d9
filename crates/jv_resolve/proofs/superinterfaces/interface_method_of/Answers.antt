-- Such a method is one that is neither private nor static.
use Rattle.jv_types.specs.declared.ids.MethodId.{MethodId}
use Rattle.jv_resolve.specs.Inheriting.{IsInterfaceMethod}
use Rattle.jv_resolve.specs.Selecting.{IsCandidate}
use Rattle.std.proofs.Common.{◌≡◌}
use Rattle.jv_resolve.proofs.Tests.{none_weaker}
use Rattle.jv_resolve.proofs.superinterfaces.interface_method_of.Goals as goal

pub returns-clause-none : goal.returns-clause-none
returns-clause-none c =
    none_weaker c.wanted_method.result
    ((m : MethodId) → m.class.number ≡ c.args.c.number → IsCandidate c.args.world.now c.args.name.now c.args.desc.now m → ⊥)
    ((m : MethodId) → m.class.number ≡ c.args.c.number → IsInterfaceMethod c.args.world.now c.args.name.now c.args.desc.now m → ⊥)
    (λ none m e p. none m e (p.0, p.1)) c.wanted_method.ensures.none
