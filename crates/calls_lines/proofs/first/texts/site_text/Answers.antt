use Rattle.std.proofs.Common.{◌≡◌, []}
use Rattle.std.proofs.lemmas.Result.{IfOk-weaker}
use Rattle.calls_lines.specs.First.Lines.{HasMethodText, HasSiteText}
use Rattle.calls_lines.specs.First.Adding.{IsTextOf, numbered}
use Rattle.calls_lines.proofs.Texts.{IsTextOf-numbered}
use Rattle.calls_lines.proofs.first.texts.site_text.Goals as goal

pub returns : goal.returns
returns c =
    let class = c.args.class.now in
    IfOk-weaker c.numbered.result (λ text. text ≡ numbered [] c.in_ok-method.method c.args.pc) (IsTextOf (HasSiteText class c.args.method c.args.pc))
    (λ text is. IsTextOf-numbered (HasMethodText class c.args.method) [] c.in_ok-method.method c.args.pc text c.in_ok-method.ensures is)
    (rw c.from.ensures at c.numbered.ensures)
