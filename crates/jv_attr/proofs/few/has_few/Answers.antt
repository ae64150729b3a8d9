-- The tests pass exactly where the counts fit.
use Rattle.std.proofs.Common.{◌∙◌, sym}
use Rattle.jv_attr.proofs.FewLaws.{few_to, few_from}
use Rattle.jv_attr.proofs.few.has_few.Goals as goal

pub returns : goal.returns
returns c = ((λ t. few_to c.args.attr.now (sym c.has_few_counts.ensures ∙ t)), (λ h. c.has_few_counts.ensures ∙ few_from c.args.attr.now h))
