use Rattle.std.proofs.Common.{get_or}
use Rattle.std.proofs.lemmas.List.Elements.{Contains-get_or}
use Rattle.jv_world.proofs.Wholes.{marked_all}
use Rattle.jv_world.proofs.whole.are_marked.Goals as goal

pub bounds-marks-class : goal.bounds-marks-class
bounds-marks-class c =
    c.requires (get_or c.args.classes.now c.loop-class.class-index (record { number = 0 })).number (Contains-get_or c.args.classes.now c.loop-class.class-index (record { number = 0 }) c.loop-class-test.true)

pub returns : goal.returns
returns c = marked_all c.args.classes.now c.loop-class.class-index c.args.marks.now c.loop-class-test.false c.loop-class.invariant
