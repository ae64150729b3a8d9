use Rattle.av_standin_of.specs.Templates.{begins_with}
use Rattle.av_templates.proofs.Begun.{template_begun}
use Rattle.av_templates.proofs.constructors.begun_template.Goals as goal

pub returns : goal.returns
returns c =
    template_begun c.args.class.now c.args.method.now (begins_with c.args.class.now c.args.method.now c.args.parent.now) c.args.builder c.in_ok-builder.builder c.template.result
    c.requires.first c.in_ok-builder.ensures c.template.ensures
