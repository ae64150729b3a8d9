use Rattle.jv_world.specs.Whole.{IsWhole}
use Rattle.jv_world.proofs.Wholes.{marks_more}
use Rattle.jv_world.proofs.whole.whole_classes.Goals as goal

pub loop-place-preserved : goal.loop-place-preserved
loop-place-preserved c =
    marks_more (IsWhole c.args.shapes.now) c.loop-place.place c.loop-place.marks.items c.push.new.self.items c.is_whole.result c.loop-place.invariant c.is_whole.ensures c.in_ok-push.ensures.items
