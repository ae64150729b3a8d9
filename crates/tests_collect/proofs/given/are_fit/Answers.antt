use Rattle.std.proofs.Common.{All, take, get_or, subst, sym}
use Rattle.std.proofs.lemmas.List.{take_all, take_more}
use Rattle.std.proofs.lemmas.List.Elements.{All-push}
use Rattle.tests_collect.specs.Given.{IsFitBody}
use Rattle.tests_collect.proofs.given.are_fit.Goals as goal

pub loop-method-preserved : goal.loop-method-preserved
loop-method-preserved c =
    let P = IsFitBody c.args.shapes.now in
    let xs = c.args.bodies.now in
    let i = c.loop-method.method-index in
    let x = c.method-item.result in
    subst (All P) (sym (take_more xs i x c.loop-method-test.true)) (All-push P (take i xs) (get_or xs i x) c.loop-method.invariant (subst P c.method-item.is (c.is_fit_body.ensures c.if-not-is_fit_body.false)))

pub returns : goal.returns
returns c = λ yes. subst (All (IsFitBody c.args.shapes.now)) (take_all c.loop-method.method-index c.args.bodies.now c.loop-method-test.false) c.loop-method.invariant
