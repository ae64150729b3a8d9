-- An array begins at Object.
use Rattle.std.proofs.Common.{◌≡◌, ℕ, Some, None}
use Rattle.jv_types.specs.declared.ids.ClassId.{ClassId}
use Rattle.jv_world.specs.Worlds.{IsNamed, object_name}
use Rattle.jv_resolve.specs.References.{BeginsAt}
use Rattle.jv_resolve.proofs.ReferenceLemmas.{begins_named}
use Rattle.jv_resolve.proofs.Tests.{none_weaker, some_weaker, ok_none, ok_some}
use Rattle.jv_resolve.proofs.references.start_of.Goals as goal

pub returns-in-None-clause-none : goal.returns-in-None-clause-none
returns-in-None-clause-none c =
    ok_none c.object_class.result ((k : ℕ) → IsNamed c.args.world.now k object_name → ⊥) ((k : ℕ) → BeginsAt c.args.world.now c.args.type_of.now k → ⊥)
    (λ none k b. none k (begins_named c.args.world.now c.args.type_of.now None k c.in-None.ensures b)) c.object_class.ensures.none

pub returns-in-Some-clause-none : goal.returns-in-Some-clause-none
returns-in-Some-clause-none c =
    none_weaker c.class.result ((k : ℕ) → IsNamed c.args.world.now k c.in-Some.name.now → ⊥) ((k : ℕ) → BeginsAt c.args.world.now c.args.type_of.now k → ⊥)
    (λ none k b. none k (begins_named c.args.world.now c.args.type_of.now (Some c.in-Some.name.now) k c.in-Some.ensures b)) c.class.ensures.none

pub returns-in-None-clause-one : goal.returns-in-None-clause-one
returns-in-None-clause-one c =
    ok_some c.object_class.result (λ (k : ClassId). (d : ℕ) → IsNamed c.args.world.now d object_name → d ≡ k.number) (λ (k : ClassId). (d : ℕ) → BeginsAt c.args.world.now c.args.type_of.now d → d ≡ k.number)
    (λ k one d b. one d (begins_named c.args.world.now c.args.type_of.now None d c.in-None.ensures b)) c.object_class.ensures.one

pub returns-in-Some-clause-one : goal.returns-in-Some-clause-one
returns-in-Some-clause-one c =
    some_weaker c.class.result (λ (k : ClassId). IsNamed c.args.world.now k.number c.in-Some.name.now) (λ (k : ClassId). (d : ℕ) → BeginsAt c.args.world.now c.args.type_of.now d → d ≡ k.number)
    (λ k named d b. c.class.ensures.world.numbered.distinct d k.number c.in-Some.name.now (begins_named c.args.world.now c.args.type_of.now (Some c.in-Some.name.now) d c.in-Some.ensures b) named) c.class.ensures.found
