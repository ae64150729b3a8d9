use Rattle.std.proofs.Common.{◌∙◌, sym}
use Rattle.jv_verify_refs.proofs.Named.{no_constant}
use Rattle.jv_verify_refs.proofs.constants.push_constant.Goals as goal

pub returns-in-Some-2-clause-rule : goal.returns-in-Some-2-clause-rule
returns-in-Some-2-clause-rule c = λ is.
    no_constant c.args.step.now c.in-Some.constant.now c.in-Some-2.of c.in-Some.ensures.found (sym c.in_ok-of.ensures ∙ c.in-Some-2.is) (c.goes.ensures.rule is)
