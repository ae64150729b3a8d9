-- The class that the reference names declares no such method.
use Rattle.std.proofs.Common.{◌≡◌}
use Rattle.jv_types.specs.declared.ids.MethodId.{MethodId}
use Rattle.jv_resolve.specs.Members.{DeclaresMethod, init_name}
use Rattle.jv_resolve.specs.Resolving.{IsInitKept}
use Rattle.jv_resolve.proofs.MethodLemmas.{init_there}
use Rattle.jv_resolve.proofs.Tests.{none_weaker}
use Rattle.jv_resolve.proofs.methods.own_init.Goals as goal

pub returns-clause-none : goal.returns-clause-none
returns-clause-none c =
    none_weaker c.declared_method.result ((m : MethodId) → m.class.number ≡ c.args.start.number → DeclaresMethod c.args.world.now c.args.r.now.name c.args.r.now.desc m → ⊥)
    (c.args.r.now.name ≡ init_name → (m : MethodId) → DeclaresMethod c.args.world.now c.args.r.now.name c.args.r.now.desc m → IsInitKept c.args.world.now c.args.r.now m → ⊥)
    (λ none init m p kept. none m (init_there c.args.world.now c.args.r.now c.args.start.number m c.declared_method.ensures.world c.requires.begins init kept) p) c.declared_method.ensures.none
