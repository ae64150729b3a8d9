use Rattle.std.proofs.Common.{ap, sym, ◌∙◌}
use Rattle.av_named.specs.Inner.{inner_name}
use Rattle.av_named.proofs.Inner.{inner_name-Array}
use Rattle.av_named.proofs.types.+inner_name.Goals as goal

pub returns-in-Array : goal.returns-in-Array
returns-in-Array t c = c.inner_name.ensures ∙ ap inner_name c.get.ensures ∙ sym (inner_name-Array c.in-Array.item) ∙ ap inner_name (sym c.in-Array.is)
