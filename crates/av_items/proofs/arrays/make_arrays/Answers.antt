use Rattle.std.proofs.Common.{arith, ◌+◌}
use Rattle.av_items.proofs.Dims.{none_made, one_more_made, all_made}
use Rattle.av_items.proofs.arrays.make_arrays.Goals as goal

pub loop-init : goal.loop-init
loop-init c = none_made c.args.of c.args.builder

pub loop-preserved : goal.loop-preserved
loop-preserved c =
    one_more_made c.loop.counter (c.loop.counter + 1) c.args.of c.loop.of c.in_ok-of.of c.args.builder c.loop.builder c.in_ok-builder.builder (omega arith) c.loop.invariant
    c.in_ok-builder.ensures c.in_ok-of.ensures

pub returns : goal.returns
returns c = all_made c.args.dims c.loop.counter c.args.of c.loop.of c.args.builder c.loop.builder c.loop.invariant (omega (arith, c.loop-test.false, c.loop.auto.counter-end))
