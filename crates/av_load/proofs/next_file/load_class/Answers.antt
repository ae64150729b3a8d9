use Rattle.std.proofs.Common.{Option, subst}
use Rattle.std.proofs.lemmas.Result.{err_from_is_err_and}
use Rattle.jv_types.specs.declared.rule.Rule.{Rule}
use Rattle.av_load.specs.Steps.Loading.{FailsRule, IsJudged}
use Rattle.av_load.proofs.Judging.{stops_by, stops_by_form}
use Rattle.av_load.proofs.next_file.load_class.Goals as goal

pub returns-in_err-class-clause-refused : goal.returns-in_err-class-clause-refused
returns-in_err-class-clause-refused g c =
    let p = err_from_is_err_and c.from_residual.result c.from_residual.ensures.1 in
    rw (p.1, p.2) (λ app. stops_by_form (g.H.Host.files c.args.host.now) app c.args.lib.now c.args.file.now c.args.bytes.now c.in_err-class.field-0.0 c.in_err-class.ensures.refused)

pub returns-in-Some-clause-refused : goal.returns-in-Some-clause-refused
returns-in-Some-clause-refused g c =
    let told = g.H.Host.files c.args.host.now in
    let judged : FailsRule told c.args.lib.now c.args.file.now c.in_ok-class.class c.in-Some.rule =
    subst (λ (o : Option Rule). IsJudged told c.args.lib.now c.args.file.now c.in_ok-class.class o) c.in-Some.is c.in_ok-rule.ensures.judged in
    λ app. stops_by told app c.args.lib.now c.args.file.now c.args.bytes.now (Unit {0}) c.in-Some.rule c.refused.result c.refused.ensures
    (judged app c.args.bytes.now c.in_ok-class.ensures.found)
