use Rattle.av_load.proofs.FileNames.{no_part_more, no_part_start, part_found, part_none}
use Rattle.av_load.proofs.names.has_stand_in_part.Goals as goal

pub loop-start-init : goal.loop-start-init
loop-start-init c = no_part_start c.args.name.now

pub loop-start-preserved : goal.loop-start-preserved
loop-start-preserved c =
    no_part_more c.args.name.now c.loop-start.start c.begins_with.result c.if-begins_with.false (rw c.as_slice.ensures at c.begins_with.ensures) c.loop-start.invariant

pub returns-then-begins_with : goal.returns-then-begins_with
returns-then-begins_with c = let says = rw c.as_slice.ensures at c.begins_with.ensures in part_found c.args.name.now c.loop-start.start (says.0 c.if-begins_with.true)

pub returns : goal.returns
returns c = part_none c.args.name.now c.loop-start.start c.loop-start-test.false c.loop-start.invariant
