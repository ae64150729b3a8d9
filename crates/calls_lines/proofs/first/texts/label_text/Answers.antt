use Rattle.std.proofs.Common.{◌≡◌}
use Rattle.std.specs.Prelude.{codes}
use Rattle.std.proofs.lemmas.Result.{IfOk-weaker}
use Rattle.jv_types.specs.declared.label.Label.TheVariants.{Site}
use Rattle.calls_lines.specs.First.Lines.{HasSiteText, HasLabelText}
use Rattle.calls_lines.specs.First.Adding.{IsTextOf, numbered}
use Rattle.calls_lines.proofs.Texts.{IsTextOf-numbered}
use Rattle.calls_lines.proofs.first.texts.label_text.Goals as goal

pub returns : goal.returns
returns c =
    let class = c.args.class.now in
    rw c.in-Site.is (
    IfOk-weaker c.numbered.result (λ text. text ≡ numbered (codes "new ") c.in_ok-site.site c.in-Site.depth) (IsTextOf (HasLabelText class (Site c.in-Site.method c.in-Site.pc c.in-Site.depth)))
    (λ text is. IsTextOf-numbered (HasSiteText class c.in-Site.method c.in-Site.pc) (codes "new ") c.in_ok-site.site c.in-Site.depth text c.in_ok-site.ensures is)
    (rw c.from.ensures at c.numbered.ensures))
