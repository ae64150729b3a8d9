use Rattle.av_verified.specs.Lines.{IsClassLine}
use Rattle.av_verified.proofs.Adding.{AddsLines-more, are_verified}
use Rattle.av_verified.proofs.lines.verified_lines.Goals as goal

pub loop-class-preserved : goal.loop-class-preserved
loop-class-preserved c =
    AddsLines-more IsClassLine c.shapes-class-items.result.now c.loop-class.class-index c.class-item.result _ _ _
    c.loop-class-test.true c.class-item.is c.loop-class.invariant c.in_ok-add_class.ensures

pub returns : goal.returns
returns c =
    are_verified c.args.world.now c.shapes-class-items.result.now c.loop-class.class-index c.loop-class.lines.keys
    c.shapes-class-items.ensures.shapes c.loop-class-test.false c.loop-class.invariant
