use Rattle.std.proofs.Common.{IfNone, IfSome, subst}
use Rattle.av_rules.specs.declared.flat_type.FlatType.{FlatType}
use Rattle.av_rules.specs.Labels.{IsTypeOf}
use Rattle.av_rules.specs.Program.{Program}
use Rattle.av_rules.proofs.app_rules.AppRules.type_of.Goals as goal

pub returns-clause-found : goal.returns-clause-found
returns-clause-found c = subst (λ (p : Program). IfSome c.type_of.result (IsTypeOf p c.args.label)) c.self.view_is c.type_of.ensures.found

pub returns-clause-none : goal.returns-clause-none
returns-clause-none c =
    subst (λ (p : Program). IfNone c.type_of.result ((made : FlatType) → IsTypeOf p c.args.label made → ⊥)) c.self.view_is c.type_of.ensures.none
