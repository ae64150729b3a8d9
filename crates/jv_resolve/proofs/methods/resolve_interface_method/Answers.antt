-- Each cause.
use Rattle.std.proofs.Common.{◌≡◌, ℕ}
use Rattle.std.specs.Prelude.{unwrap_or}
use Rattle.jv_types.specs.declared.ids.ClassId.{ClassId}
use Rattle.jv_types.specs.declared.ids.MethodId.{MethodId}
use Rattle.jv_world.specs.Worlds.{object_name}
use Rattle.jv_resolve.specs.References.{named_class, BeginsAt}
use Rattle.jv_resolve.specs.Resolving.{IsInitKept, ResolvesInInterface}
use Rattle.jv_resolve.proofs.Hierarchy.{named_here}
use Rattle.jv_resolve.proofs.MethodLemmas.{nothing_at_interface, nothing_from_interface, resolves_interface}
use Rattle.jv_resolve.proofs.Tests.{none_at, some_at}
use Rattle.jv_resolve.proofs.methods.resolve_interface_method.Goals as goal

pub returns-in_default-clause-refused : goal.returns-in_default-clause-refused
returns-in_default-clause-refused c = (
  c.names_interface.ensures.0 c.if-not-names_interface.false,
  nothing_at_interface c.args.world.now c.args.r.now (none_at c.in_ok-start.field-0 ((k : ℕ) → BeginsAt c.args.world.now c.args.r.now.class k → ⊥) c.in_default.is c.in_ok-start.ensures.none),
)

pub found_in_interface-requires-clause-here : goal.found_in_interface-requires-clause-here
found_in_interface-requires-clause-here c =
    named_here c.args.world.now c.in-Some.start.number (unwrap_or (named_class c.args.r.now.class) object_name)
    (some_at c.in_ok-start.field-0 c.in-Some.start (λ (k : ClassId). BeginsAt c.args.world.now c.args.r.now.class k.number) c.in-Some.is c.in_ok-start.ensures.found)

pub returns-in_default-2-clause-refused : goal.returns-in_default-2-clause-refused
returns-in_default-2-clause-refused c = (
  c.names_interface.ensures.0 c.if-not-names_interface.false,
  nothing_from_interface c.args.world.now c.args.r.now c.in-Some.start.number
      (some_at c.in_ok-start.field-0 c.in-Some.start (λ (k : ClassId). (d : ℕ) → BeginsAt c.args.world.now c.args.r.now.class d → d ≡ k.number) c.in-Some.is c.in_ok-start.ensures.one)
      (none_at c.in_ok-m.field-0
      ((m : MethodId) → ResolvesInInterface c.args.world.now c.in-Some.start.number c.args.r.now.name c.args.r.now.desc m → IsInitKept c.args.world.now c.args.r.now m → ⊥)
      c.in_default-2.is c.in_ok-m.ensures.none),
)

pub returns-clause-resolved : goal.returns-clause-resolved
returns-clause-resolved c =
    let found = some_at c.in_ok-m.field-0 c.in-Some-2.m
    (λ (m : MethodId). ResolvesInInterface c.args.world.now c.in-Some.start.number c.args.r.now.name c.args.r.now.desc m × IsInitKept c.args.world.now c.args.r.now m) c.in-Some-2.is c.in_ok-m.ensures.found in
    resolves_interface c.args.world.now c.args.r.now c.in-Some.start.number c.in-Some-2.m
    (some_at c.in_ok-start.field-0 c.in-Some.start (λ (k : ClassId). (d : ℕ) → BeginsAt c.args.world.now c.args.r.now.class d → d ≡ k.number) c.in-Some.is c.in_ok-start.ensures.one)
    (c.names_interface.ensures.0 c.if-not-names_interface.false)
    (some_at c.in_ok-start.field-0 c.in-Some.start (λ (k : ClassId). BeginsAt c.args.world.now c.args.r.now.class k.number) c.in-Some.is c.in_ok-start.ensures.found)
    found.0 found.1
