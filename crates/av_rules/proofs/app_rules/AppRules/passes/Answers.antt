use Rattle.std.proofs.Common.{◌↔◌, IsTrue, subst}
use Rattle.av_rules.specs.Labels.{Passes}
use Rattle.av_rules.specs.Program.{Program}
use Rattle.av_rules.proofs.app_rules.AppRules.passes.Goals as goal

pub returns : goal.returns
returns c = subst (λ (p : Program). IsTrue c.passes.result ↔ Passes p c.args.label c.args.of.now) c.self.view_is c.passes.ensures
