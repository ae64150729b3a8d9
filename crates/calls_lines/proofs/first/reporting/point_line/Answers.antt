use Rattle.std.proofs.Common.{◌≡◌}
use Rattle.std.specs.Prelude.{codes}
use Rattle.std.proofs.lemmas.Result.{IfOk-weaker}
use Rattle.jv_types.specs.declared.fact.Fact.TheVariants.{Pt}
use Rattle.calls_lines.specs.First.Lines.{HasLabelText, HasPlaceText, HasLine}
use Rattle.calls_lines.specs.First.Adding.{IsTextOf, paired}
use Rattle.calls_lines.proofs.Texts.{IsTextOf-paired}
use Rattle.calls_lines.proofs.first.reporting.point_line.Goals as goal

pub returns : goal.returns
returns c =
    let class = c.args.class.now in
    IfOk-weaker c.paired.result (λ text. text ≡ paired (codes "pt ") c.in_ok-place.place c.in_ok-label.label) (IsTextOf (HasLine class (Pt c.args.place c.args.label)))
    (λ text is.
    IsTextOf-paired (HasPlaceText class c.args.place) (HasLabelText class c.args.label) (codes "pt ") c.in_ok-place.place c.in_ok-label.label text c.in_ok-place.ensures c.in_ok-label.ensures is)
    c.paired.ensures
