use Rattle.std.proofs.Common.{refl}
use Rattle.std.proofs.lemmas.Option.{slice_get_within}
use Rattle.jv_types.specs.declared.ids.MethodId.{MethodId}
use Rattle.jv_resolve.specs.Resolving.{ResolvesMethod}
use Rattle.jv_resolve.proofs.Tests.{none_at, some_at}
use Rattle.jv_verify_refs.specs.Steps.Parts.{site_of}
use Rattle.jv_verify_refs.proofs.Receiving.{passes_method}
use Rattle.jv_verify_refs.proofs.protected.passes_for_method.Goals as goal

pub returns-in_default : goal.returns-in_default
returns-in_default c = (
  λ t m x resolves at.
      absurd (none_at c.in_ok-m.field-0 ((n : MethodId) → ResolvesMethod c.args.step.now.world.now c.args.r.now n → ⊥) c.in_default.is c.in_ok-m.ensures.none m resolves),
  λ p. refl,
)

pub passes_protected-requires-clause-declarer_here : goal.passes_protected-requires-clause-declarer_here
passes_protected-requires-clause-declarer_here c =
    let at = c.method_flags-flags.ensures.flags.1 in
    slice_get_within c.args.step.now.world.now c.in-Some.m.class.number at.0 at.1

pub returns : goal.returns
returns c =
    passes_method c.args.step.now.world.now (site_of c.args.step.now) c.args.r.now c.in-Some.m c.method_flags-flags.result c.args.receiver.now c.passes_protected.result
    c.method_flags-flags.ensures.world
    (some_at c.in_ok-m.field-0 c.in-Some.m (λ (m : MethodId). ResolvesMethod c.args.step.now.world.now c.args.r.now m) c.in-Some.is c.in_ok-m.ensures.found)
    c.method_flags-flags.ensures.flags (rw c.as_slice-name.ensures at c.passes_protected.ensures)
