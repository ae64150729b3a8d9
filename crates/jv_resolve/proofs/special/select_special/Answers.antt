-- The shape is that of the method, and the start is one.
use Rattle.std.proofs.Common.{◌≡◌, ℕ}
use Rattle.jv_types.specs.declared.ids.ClassId.{ClassId}
use Rattle.jv_types.specs.declared.ids.MethodId.{MethodId}
use Rattle.jv_resolve.specs.Selecting.{SpecialStart, SelectsFrom, SelectsSpecial}
use Rattle.jv_resolve.proofs.SpecialLemmas.{special_at, special_nowhere}
use Rattle.jv_resolve.proofs.Tests.{ok_none, none_at, some_at}
use Rattle.jv_resolve.proofs.special.select_special.Goals as goal

pub returns-in_default-clause-none : goal.returns-in_default-clause-none
returns-in_default-clause-none c =
    special_nowhere c.args.world.now c.args.from.number c.args.r.now c.args.m c.method_shape-shape.result.now c.method_shape-shape.ensures
    (none_at c.in_ok-start.field-0 ((d : ℕ) → SpecialStart c.args.world.now c.args.from.number c.args.r.now c.method_shape-shape.result.now.name d → ⊥) c.in_default.is c.in_ok-start.ensures.none)

pub returns-clause-none : goal.returns-clause-none
returns-clause-none c =
    let one = some_at c.in_ok-start.field-0 c.in-Some.start
    (λ (k : ClassId). (d : ℕ) → SpecialStart c.args.world.now c.args.from.number c.args.r.now c.method_shape-shape.result.now.name d → d ≡ k.number) c.in-Some.is c.in_ok-start.ensures.one in
    ok_none c.select_from.result
    ((s : MethodId) → SelectsFrom c.args.world.now c.args.m c.method_shape-shape.result.now.name c.method_shape-shape.result.now.desc c.in-Some.start.number s → ⊥)
    ((s : MethodId) → SelectsSpecial c.args.world.now c.args.from.number c.args.r.now c.args.m s → ⊥)
    (λ none s p. none s (special_at c.args.world.now c.args.from.number c.args.r.now c.args.m c.method_shape-shape.result.now c.in-Some.start.number s c.method_shape-shape.ensures one p)) c.select_from.ensures.none
