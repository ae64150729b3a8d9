use Rattle.av_insn_rules.specs.InsnRules.{FailsFirst, FailsNowhere, insn_rules}
use Rattle.jv_verify.specs.Verified.{IsUnverified, IsVerified}
use Rattle.av_stops.specs.MethodRules.{KeepsIn, by_insn, by_types}
use Rattle.av_method_rules.proofs.Typed.{accepted, first_at, none_at}
use Rattle.av_method_rules.proofs.typing.frames_of_method.Goals as goal

pub returns-in-Some-clause-stopped : goal.returns-in-Some-clause-stopped
returns-in-Some-clause-stopped c =
    let fails : FailsFirst (KeepsIn c.args.world.now c.args.class.now c.args.id) insn_rules c.args.body c.in-Some.rule c.from.result =
    first_at c.args.world.now c.args.class.now c.args.id c.args.body c.in_ok-rule.field-0 c.in-Some.rule c.in-Some.pc c.from.result c.in-Some.is c.from.ensures c.in_ok-rule.ensures.found in
    λ member code decoded. by_insn code c.args.body decoded fails

pub returns-in-Ok-clause-accepted : goal.returns-in-Ok-clause-accepted
returns-in-Ok-clause-accepted c =
    let keeps : FailsNowhere (KeepsIn c.args.world.now c.args.class.now c.args.id) insn_rules c.args.body =
    none_at c.in_ok-rule.field-0 (FailsNowhere (KeepsIn c.args.world.now c.args.class.now c.args.id) insn_rules c.args.body) c.in_default.is c.in_ok-rule.ensures.none in
    let verified : IsVerified c.args.world.now c.args.class.now c.args.id c.args.body c.in-Ok.framed = c.in-Ok.ensures.verified in
    λ member code decoded. accepted c.args.world.now c.args.class.now c.args.id member code c.args.body c.in-Ok.framed decoded keeps verified

pub returns-in-Err-At-clause-stopped : goal.returns-in-Err-At-clause-stopped
returns-in-Err-At-clause-stopped c =
    let keeps : FailsNowhere (KeepsIn c.args.world.now c.args.class.now c.args.id) insn_rules c.args.body =
    none_at c.in_ok-rule.field-0 (FailsNowhere (KeepsIn c.args.world.now c.args.class.now c.args.id) insn_rules c.args.body) c.in_default.is c.in_ok-rule.ensures.none in
    let fails : IsUnverified c.args.world.now c.args.class.now c.args.id c.args.body c.in-Err-At.rule c.in-Err-At.pc = rw c.in-Err-At.field-0-is at c.in-Err-At.ensures.refused in
    λ member code decoded. by_types code c.args.body decoded keeps fails
