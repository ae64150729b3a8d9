use Rattle.std.proofs.Common.{length, arith}
use Rattle.av_tables.specs.Steps.{known}
use Rattle.av_round.proofs.Shapes.{all_read, more_read, none_read}
use Rattle.av_round.proofs.whole.push_all_read.Goals as goal

pub loop-class-init : goal.loop-class-init
loop-class-init c = none_read (known c.args.classes.now) c.args.out.now.items

pub loop-class-preserved : goal.loop-class-preserved
loop-class-preserved c =
    more_read (known c.args.classes.now) c.loop-class.class c.args.out.now.items c.loop-class.out.items c.push_read.new.out.items c.loop-class.invariant c.in_ok-push_read.ensures

pub returns : goal.returns
returns c =
    let ok = c.args.classes.now.names.ok in
    all_read (known c.args.classes.now) c.loop-class.class (length c.args.classes.now.names.items) c.args.out.now.items c.loop-class.out.items (omega (arith, c.loop-class-test.false, c.len-class-end.ensures, ok)) c.loop-class.invariant
