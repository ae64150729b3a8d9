use Rattle.std.proofs.Common.{IfNone, IfOk, IfSome, sym, subst}
use Rattle.jv_resolve.specs.Members.{HasMethod}
use Rattle.jv_types.specs.declared.ids.MethodId.{MethodId}
use Rattle.av_rules.specs.Dispatching.{LabelSelects}
use Rattle.av_rules.specs.Program.{Program}
use Rattle.av_rules.proofs.app_rules.AppRules.selected.Goals as goal

pub selected-requires-clause-resolved_here : goal.selected-requires-clause-resolved_here
selected-requires-clause-resolved_here c = subst (λ (p : Program). HasMethod p.world c.args.resolved) (sym c.self.view_is) c.requires

pub returns-clause-found : goal.returns-clause-found
returns-clause-found c =
    subst (λ (p : Program). IfOk c.selected.result (λ o. IfSome o (LabelSelects p c.args.interface c.args.label c.args.resolved))) c.self.view_is c.selected.ensures.found

pub returns-clause-none : goal.returns-clause-none
returns-clause-none c =
    subst (λ (p : Program). IfOk c.selected.result (λ o. IfNone o ((m : MethodId) → LabelSelects p c.args.interface c.args.label c.args.resolved m → ⊥))) c.self.view_is
    c.selected.ensures.none
