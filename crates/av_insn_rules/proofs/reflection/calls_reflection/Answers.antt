use Rattle.jv_types.specs.declared.ids.MethodId.{MethodId}
use Rattle.jv_resolve.proofs.Tests.{some_at}
use Rattle.av_conditions.specs.Members.{ResolvesCall}
use Rattle.av_insn_rules.proofs.Accessing.{reflection_at}
use Rattle.av_insn_rules.proofs.reflection.calls_reflection.Goals as goal

pub returns-in-Some : goal.returns-in-Some
returns-in-Some c =
    reflection_at c.args.world.now c.args.insn.now c.in-Method.r c.in-Some.m c.is_reflection.result c.is_a_world.ensures c.in-Method.is
    (some_at c.in_ok-resolved_call.field-0 c.in-Some.m (λ (m : MethodId). ResolvesCall c.args.world.now c.in-Method.r m) c.in-Some.is c.in_ok-resolved_call.ensures.found)
    c.is_reflection.ensures
