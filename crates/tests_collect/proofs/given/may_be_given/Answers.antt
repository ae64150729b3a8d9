use Rattle.std.proofs.Common.{◌≤◌, ◌∙◌, length, sym, arith}
use Rattle.tests_collect.proofs.GivenLemmas.{are_given}
use Rattle.tests_collect.proofs.given.may_be_given.Goals as goal

pub returns : goal.returns
returns c = λ fit.
    let few : length c.args.shapes.now ≤ 20000 = omega (arith, c.if-shapes-gt-MOST_CLASSES.false) in
    are_given c.args.shapes.now c.args.maps.now c.args.bodies.now few (c.in_ok-are_numbered.ensures.0 c.if-not-branch.false) (sym c.are_of_application.ensures ∙ c.if-not-are_of_application.false)
    (sym c.are_class_names.ensures ∙ c.if-not-are_class_names.false) (c.are_fit.ensures fit)
