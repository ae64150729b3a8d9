-- By the laws of the text of a class.
use Rattle.std.proofs.lemmas.Result.{err_from_is_err_and}
use Rattle.jv_class.proofs.ClassTexts.{ruled, refused, unruled, untrue}
use Rattle.jv_class.specs.ClassTexts.{KeepsRules}
use Rattle.jv_class.proofs.read.read_ruled.Goals as goal

pub returns-in_err-class-clause-bad : goal.returns-in_err-class-clause-bad
returns-in_err-class-clause-bad c =
    let p = err_from_is_err_and c.from_residual.result c.from_residual.ensures.1 in
    rw (p.1, p.2) (refused c.args.bytes.now c.in_err-class.field-0.0 c.in_err-class.ensures)

pub returns-then-not-keeps-clause-bad : goal.returns-then-not-keeps-clause-bad
returns-then-not-keeps-clause-bad c =
    λ _. unruled c.args.bytes.now c.in_ok-class.class c.in_ok-class.ensures (untrue (KeepsRules c.in_ok-class.class) c.in_ok-keeps.keeps c.if-not-keeps.true c.in_ok-keeps.ensures)

pub returns-clause-found : goal.returns-clause-found
returns-clause-found c = ruled c.args.bytes.now c.in_ok-class.class c.in_ok-class.ensures (c.in_ok-keeps.ensures.0 c.if-not-keeps.false)
