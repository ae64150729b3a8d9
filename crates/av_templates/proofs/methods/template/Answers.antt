use Rattle.av_templates.proofs.Begun.{template_put}
use Rattle.av_templates.proofs.methods.template.Goals as goal

pub returns : goal.returns
returns c =
    template_put c.args.class.now c.args.method.now c.args.builder c.in_ok-builder.builder c.in_ok-builder-2.builder c.in_ok-at.at.words c.in_ok-at.at.types.items c.answers.result
    c.in_ok-at.ensures.words c.in_ok-at.ensures.types c.in_ok-builder.ensures c.in_ok-builder-2.ensures c.answers.ensures
