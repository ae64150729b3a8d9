use Rattle.std.proofs.Common.{IfNone, IfSome, sym, subst}
use Rattle.jv_types.specs.declared.label.Label.{Label}
use Rattle.av_rules.specs.declared.flat_type.FlatType.{FlatType}
use Rattle.av_rules.specs.Labels.{IsTypeOf}
use Rattle.av_rules.specs.Steps.Programs.{program_of}
use Rattle.av_rules.proofs.given.Given.type_of.Goals as goal

pub returns-in-Site-clause-found : goal.returns-in-Site-clause-found
returns-in-Site-clause-found c =
    subst (λ (l : Label). IfSome c.site_type.result (IsTypeOf (program_of c.args.self.now) l)) (sym c.in-Site.is) c.site_type.ensures.found

pub returns-in-Site-clause-none : goal.returns-in-Site-clause-none
returns-in-Site-clause-none c =
    subst (λ (l : Label). IfNone c.site_type.result ((made : FlatType) → IsTypeOf (program_of c.args.self.now) l made → ⊥)) (sym c.in-Site.is) c.site_type.ensures.none

pub returns-in-Lib-clause-found : goal.returns-in-Lib-clause-found
returns-in-Lib-clause-found c =
    subst (λ (l : Label). IfSome c.lib_type.result (IsTypeOf (program_of c.args.self.now) l)) (sym c.in-Lib.is) c.lib_type.ensures.found

pub returns-in-Lib-clause-none : goal.returns-in-Lib-clause-none
returns-in-Lib-clause-none c =
    subst (λ (l : Label). IfNone c.lib_type.result ((made : FlatType) → IsTypeOf (program_of c.args.self.now) l made → ⊥)) (sym c.in-Lib.is) c.lib_type.ensures.none
