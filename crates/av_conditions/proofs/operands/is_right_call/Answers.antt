use Rattle.jv_types.specs.declared.ids.MethodId.{MethodId}
use Rattle.jv_resolve.proofs.Tests.{some_at}
use Rattle.av_conditions.specs.Members.{ResolvesCall}
use Rattle.av_conditions.proofs.RightKinds.{call_right}
use Rattle.av_conditions.proofs.operands.is_right_call.Goals as goal

pub returns : goal.returns
returns c =
    call_right c.args.world.now c.args.op c.args.r.now c.in-Some.m c.method_flags-flags.result c.is_static.result c.agrees.result c.method_flags-flags.ensures.world
    (c.is_type_there.ensures.0 c.if-not-is_type_there.false)
    (some_at c.in_ok-m.field-0 c.in-Some.m (λ (m : MethodId). ResolvesCall c.args.world.now c.args.r.now m) c.in-Some.is c.in_ok-m.ensures.found)
    (c.is_right_form.ensures.0 c.if-not-is_right_form.false) c.method_flags-flags.ensures.flags c.is_static.ensures c.agrees.ensures
