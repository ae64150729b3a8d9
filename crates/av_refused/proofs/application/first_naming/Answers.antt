use Rattle.av_refused.specs.Firsts.{NamesOne, shape_name}
use Rattle.av_refused.proofs.First.{first_here, none_all, none_more, none_yet, not_there}
use Rattle.av_refused.proofs.application.first_naming.Goals as goal

pub loop-shape-init : goal.loop-shape-init
loop-shape-init c = none_yet (NamesOne c.args.list.now) c.args.shapes.now

pub returns-then-branch : goal.returns-then-branch
returns-then-branch c =
    first_here (NamesOne c.args.list.now) shape_name c.args.shapes.now c.loop-shape.shape-index c.shape-item.result c.in_ok-copy.field-0 c.loop-shape-test.true c.shape-item.is c.loop-shape.invariant
    (c.in_ok-names_one.ensures.0 c.if-branch.true) c.in_ok-copy.ensures

pub loop-shape-preserved : goal.loop-shape-preserved
loop-shape-preserved c =
    none_more (NamesOne c.args.list.now) c.args.shapes.now c.loop-shape.shape-index c.shape-item.result c.loop-shape-test.true c.shape-item.is c.loop-shape.invariant
    (not_there c.in_ok-names_one.field-0 (NamesOne c.args.list.now c.shape-item.result) c.in_ok-names_one.ensures c.if-branch.false)

pub returns : goal.returns
returns c = none_all (NamesOne c.args.list.now) c.args.shapes.now c.loop-shape.shape-index c.loop-shape-test.false c.loop-shape.invariant
