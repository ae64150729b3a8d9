use Rattle.std.proofs.Common.{rules}
use Rattle.av_templates.proofs.Params.{put_more}
use Rattle.av_templates.proofs.values.values_of.Goals as goal

pub loop-of-preserved : goal.loop-of-preserved
loop-of-preserved c =
    put_more c.args.at.now.words c.args.at.now.types.items c.args.stack.items c.loop-of.stack.items c.push.new.self.items c.args.descs.now c.loop-of.of-index c.of-item.result
    c.args.builder c.loop-of.builder c.in_ok-builder.builder c.loop-of-test.true c.of-item.is c.loop-of.invariant (search rules) (search rules)
