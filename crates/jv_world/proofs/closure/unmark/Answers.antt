use Rattle.std.proofs.Common.{arith}
use Rattle.std.proofs.lemmas.List.{get_or_default}
use Rattle.std.proofs.lemmas.List.Elements.{Contains-get_or}
use Rattle.jv_world.proofs.Marking.{marked_below}
use Rattle.jv_world.proofs.Searching.{IsUnmarked-start, IsUnmarked-step, none_marked}
use Rattle.jv_world.proofs.closure.unmark.Goals as goal

pub loop-class-init : goal.loop-class-init
loop-class-init c = IsUnmarked-start c.args.found.now c.args.marks.now c.requires

pub bounds-marks-class : goal.bounds-marks-class
bounds-marks-class c =
    let here = marked_below c.args.marks.now _ (c.requires.from _ (Contains-get_or c.args.found.now c.loop-class.class-index (record { number = 0 }) c.loop-class-test.true)) in
    omega (arith, here, c.loop-class.auto.marks)

pub loop-class-preserved : goal.loop-class-preserved
loop-class-preserved c =
    let here = marked_below c.args.marks.now _ (c.requires.from _ (Contains-get_or c.args.found.now c.loop-class.class-index (record { number = 0 }) c.loop-class-test.true)) in
    IsUnmarked-step c.args.found.now c.loop-class.class-index c.loop-class.marks _ c.loop-class-test.true
    (get_or_default c.args.found.now c.loop-class.class-index _ _ c.loop-class-test.true) (omega (arith, here, c.loop-class.auto.marks)) c.loop-class.invariant

pub returns : goal.returns
returns c = none_marked c.args.found.now c.loop-class.class-index c.loop-class.marks c.loop-class-test.false c.loop-class.invariant
