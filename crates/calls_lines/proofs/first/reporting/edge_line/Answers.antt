use Rattle.std.proofs.Common.{◌≡◌}
use Rattle.std.specs.Prelude.{codes}
use Rattle.std.proofs.lemmas.Result.{IfOk-weaker}
use Rattle.jv_types.specs.declared.fact.CallFrom.TheVariants as from
use Rattle.jv_types.specs.declared.fact.Fact.TheVariants.{Edge}
use Rattle.calls_lines.specs.First.Lines.{HasMethodText, HasSiteText, HasTargetText, HasLine}
use Rattle.calls_lines.specs.First.Adding.{IsTextOf, worded, paired}
use Rattle.calls_lines.proofs.Texts.{IsTextOf-worded, IsTextOf-paired}
use Rattle.calls_lines.proofs.first.reporting.edge_line.Goals as goal

pub returns-in_ok-method_text-in-Root : goal.returns-in_ok-method_text-in-Root
returns-in_ok-method_text-in-Root c =
    let class = c.args.class.now in
    let method = c.in_ok-method_text-in-Root.field-0 in
    rw c.in-Root.is (
    IfOk-weaker c.worded.result (λ text. text ≡ worded (codes "edge library ") method) (IsTextOf (HasLine class (Edge from.Root c.args.to)))
    (λ text is. IsTextOf-worded (HasMethodText class c.args.to) (codes "edge library ") method text c.in_ok-method_text-in-Root.ensures is)
    c.worded.ensures)

pub returns-in_ok-target-in-Site : goal.returns-in_ok-target-in-Site
returns-in_ok-target-in-Site c =
    let class = c.args.class.now in
    let site = c.in_ok-site-in-Site.site in
    let target = c.in_ok-target-in-Site.target in
    rw c.in-Site.is (
    IfOk-weaker c.paired.result (λ text. text ≡ paired (codes "edge ") site target) (IsTextOf (HasLine class (Edge (from.Site c.in-Site.method c.in-Site.pc) c.args.to)))
    (λ text is.
    IsTextOf-paired (HasSiteText class c.in-Site.method c.in-Site.pc) (HasTargetText class c.args.to) (codes "edge ") site target text c.in_ok-site-in-Site.ensures c.in_ok-target-in-Site.ensures is)
    c.paired.ensures)
