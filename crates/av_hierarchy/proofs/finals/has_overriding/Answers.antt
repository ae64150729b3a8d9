use Rattle.std.proofs.Common.{◌≡◌, ◌<◌, arith}
use Rattle.jv_types.specs.declared.ids.MethodId.{MethodId}
use Rattle.jv_resolve.proofs.Tests.{never}
use Rattle.av_hierarchy.specs.Steps.Finals.{MethodOverridesFinal}
use Rattle.av_hierarchy.proofs.Finding.{method_at, place_within}
use Rattle.av_hierarchy.proofs.finals.has_overriding.Goals as goal

pub overrides_final-requires-clause-method : goal.overrides_final-requires-clause-method
overrides_final-requires-clause-method c =
    method_at c.args.world.now c.args.c c.loop-index.index c.shape.result.now c.shape.ensures.shape (omega (arith, c.loop-index-test.true, c.len-count.ensures))

pub returns : goal.returns
returns c =
    never ((m : MethodId) × (m.class.number ≡ c.args.c.number) × MethodOverridesFinal c.args.world.now m)
    (λ (p : (m : MethodId) × (m.class.number ≡ c.args.c.number) × MethodOverridesFinal c.args.world.now m).
    let within = place_within c.args.world.now p.0 c.args.c.number c.shape.result.now p.2 p.1 c.shape.ensures.shape in
    let lt : p.0.index < c.loop-index.index = omega (arith, within, c.len-count.ensures, c.loop-index-test.false) in
    c.loop-index.invariant p.0 p.1 lt p.2)
