-- At the direct superclass, or at the named type.
use Rattle.std.proofs.Common.{◌≡◌, ◌<◌, ℕ, length, inr}
use Rattle.std.specs.Prelude.{unwrap_or}
use Rattle.jv_types.specs.declared.ids.ClassId.{ClassId}
use Rattle.jv_world.specs.Worlds.{HasSuperclass, object_name}
use Rattle.jv_resolve.specs.References.{named_class, BeginsAt}
use Rattle.jv_resolve.specs.Selecting.{SpecialStart}
use Rattle.jv_resolve.proofs.Hierarchy.{named_here, one_superclass}
use Rattle.jv_resolve.proofs.SpecialLemmas.{start_at_super, start_at_named}
use Rattle.jv_resolve.proofs.Tests.{some_weaker, none_weaker, ok_some, ok_none, denied}
use Rattle.jv_resolve.proofs.special.special_start.Goals as goal

pub returns-then-is_super_call-clause-one : goal.returns-then-is_super_call-clause-one
returns-then-is_super_call-clause-one c =
    some_weaker c.superclass.result (λ (k : ClassId). HasSuperclass c.args.world.now c.args.from.number k.number)
    (λ (k : ClassId). (d : ℕ) → SpecialStart c.args.world.now c.args.from.number c.args.r.now c.args.name.now d → d ≡ k.number)
    (λ k step d p. one_superclass c.args.world.now c.args.from.number d k.number c.superclass.ensures.world
    (start_at_super c.args.world.now c.args.from.number c.args.r.now c.args.name.now d (c.is_super_call.ensures.0 c.if-is_super_call.true) p) step) c.superclass.ensures.found

pub returns-then-is_super_call-clause-none : goal.returns-then-is_super_call-clause-none
returns-then-is_super_call-clause-none c =
    none_weaker c.superclass.result ((d : ℕ) → HasSuperclass c.args.world.now c.args.from.number d → ⊥)
    ((d : ℕ) → SpecialStart c.args.world.now c.args.from.number c.args.r.now c.args.name.now d → ⊥)
    (λ none d p. none d (start_at_super c.args.world.now c.args.from.number c.args.r.now c.args.name.now d (c.is_super_call.ensures.0 c.if-is_super_call.true) p)) c.superclass.ensures.none

pub returns-clause-found : goal.returns-clause-found
returns-clause-found c =
    ok_some c.start_of.result (λ (k : ClassId). BeginsAt c.args.world.now c.args.r.now.class k.number)
    (λ (k : ClassId). (k.number < length c.args.world.now) × SpecialStart c.args.world.now c.args.from.number c.args.r.now c.args.name.now k.number)
    (λ k begins. (
      named_here c.args.world.now k.number (unwrap_or (named_class c.args.r.now.class) object_name) begins,
      inr (denied c.is_super_call.result c.if-is_super_call.false c.is_super_call.ensures.1, begins),
    )) c.start_of.ensures.found

pub returns-clause-one : goal.returns-clause-one
returns-clause-one c =
    ok_some c.start_of.result (λ (k : ClassId). (d : ℕ) → BeginsAt c.args.world.now c.args.r.now.class d → d ≡ k.number)
    (λ (k : ClassId). (d : ℕ) → SpecialStart c.args.world.now c.args.from.number c.args.r.now c.args.name.now d → d ≡ k.number)
    (λ k one d p. one d (start_at_named c.args.world.now c.args.from.number c.args.r.now c.args.name.now d (denied c.is_super_call.result c.if-is_super_call.false c.is_super_call.ensures.1) p)) c.start_of.ensures.one

pub returns-clause-none : goal.returns-clause-none
returns-clause-none c =
    ok_none c.start_of.result ((d : ℕ) → BeginsAt c.args.world.now c.args.r.now.class d → ⊥)
    ((d : ℕ) → SpecialStart c.args.world.now c.args.from.number c.args.r.now c.args.name.now d → ⊥)
    (λ none d p. none d (start_at_named c.args.world.now c.args.from.number c.args.r.now c.args.name.now d (denied c.is_super_call.result c.if-is_super_call.false c.is_super_call.ensures.1) p)) c.start_of.ensures.none
