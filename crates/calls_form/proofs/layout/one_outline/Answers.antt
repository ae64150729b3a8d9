-- What has an outline is read as that outline, so two of them are one.
use Rattle.calls_form.proofs.LayoutWhole.{one_outline_lem}
use Rattle.calls_form.proofs.layout.one_outline.Goals as goal

pub returns : goal.returns
returns c = one_outline_lem
