use Rattle.std.proofs.Common.{◌≡◌}
use Rattle.std.specs.Prelude.{codes}
use Rattle.std.proofs.lemmas.Result.{IfOk-weaker}
use Rattle.jv_types.specs.declared.place.Place.TheVariants.{Field}
use Rattle.calls_lines.specs.First.Lines.{HasFieldText, HasLabelText, HasPlaceText}
use Rattle.calls_lines.specs.First.Adding.{IsTextOf, paired}
use Rattle.calls_lines.proofs.Texts.{IsTextOf-paired}
use Rattle.calls_lines.proofs.first.texts.object_field_text.Goals as goal

pub returns : goal.returns
returns c =
    let class = c.args.class.now in
    IfOk-weaker c.paired.result (λ text. text ≡ paired (codes "field ") c.in_ok-label.label c.in_ok-field.field) (IsTextOf (HasPlaceText class (Field c.args.label c.args.field)))
    (λ text is.
    IsTextOf-paired (HasLabelText class c.args.label) (HasFieldText class c.args.field) (codes "field ") c.in_ok-label.label c.in_ok-field.field text c.in_ok-label.ensures c.in_ok-field.ensures is)
    c.paired.ensures
