use Rattle.std.proofs.Common.{IfNone, IfSome, subst}
use Rattle.av_rules.specs.declared.flat_type.FlatType.{FlatType}
use Rattle.av_rules.specs.Labels.{IsBound}
use Rattle.av_rules.specs.Program.{Program}
use Rattle.av_rules.proofs.app_rules.AppRules.bound.Goals as goal

pub returns-clause-found : goal.returns-clause-found
returns-clause-found c = subst (λ (p : Program). IfSome c.bound_of.result (IsBound p c.args.label)) c.self.view_is c.bound_of.ensures.found

pub returns-clause-none : goal.returns-clause-none
returns-clause-none c =
    subst (λ (p : Program). IfNone c.bound_of.result ((made : FlatType) → IsBound p c.args.label made → ⊥)) c.self.view_is c.bound_of.ensures.none
