use Rattle.jv_types.specs.declared.ids.MethodId.{MethodId}
use Rattle.jv_resolve.proofs.Tests.{some_at}
use Rattle.av_conditions.specs.Members.{ResolvesCall}
use Rattle.av_insn_rules.proofs.Accessing.{method_at_one}
use Rattle.av_insn_rules.proofs.accessible.is_found_method_accessible.Goals as goal

pub returns-in-Some : goal.returns-in-Some
returns-in-Some c =
    method_at_one c.args.world.now c.args.from.number c.args.r.now c.in-Some.m c.is_method_accessible.result c.is_a_world.ensures
    (some_at c.in_ok-resolved_call.field-0 c.in-Some.m (λ (m : MethodId). ResolvesCall c.args.world.now c.args.r.now m) c.in-Some.is c.in_ok-resolved_call.ensures.found)
    c.is_method_accessible.ensures.exact
