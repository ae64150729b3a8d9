use Rattle.std.proofs.Common.{◌↔◌, IsTrue, subst}
use Rattle.av_rules.specs.Labels.{MayStandIn}
use Rattle.av_rules.specs.Program.{Program}
use Rattle.av_rules.proofs.app_rules.AppRules.may_stand_in.Goals as goal

pub returns : goal.returns
returns c = subst (λ (p : Program). IsTrue c.may_stand_in.result ↔ MayStandIn p c.args.item c.args.array) c.self.view_is c.may_stand_in.ensures
