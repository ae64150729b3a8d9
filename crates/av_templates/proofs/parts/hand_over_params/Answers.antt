use Rattle.std.proofs.Common.{arith, rules, ◌+◌}
use Rattle.av_templates.proofs.Params.{handed_more, sum_within}
use Rattle.av_templates.proofs.parts.hand_over_params.Goals as goal

pub overflow_add-local : goal.overflow_add-local
overflow_add-local c =
    omega (arith, sum_within c.args.params.now c.loop-of.of-index c.of-item.result c.loop-of-test.true c.of-item.is, c.loop-of.invariant.local_is, c.requires, c.param_words-local.ensures)

pub loop-of-preserved : goal.loop-of-preserved
loop-of-preserved c =
    handed_more c.args.at.now.words c.args.at.now.types.items c.args.first c.args.params.now c.loop-of.of-index c.loop-of.local (c.loop-of.local + c.param_words-local.result) c.of-item.result
    c.args.builder c.loop-of.builder c.in_ok-builder.builder c.loop-of-test.true c.of-item.is c.loop-of.invariant (search rules) (omega (arith, c.param_words-local.ensures))
