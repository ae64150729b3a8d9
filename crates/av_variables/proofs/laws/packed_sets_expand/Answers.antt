use Rattle.av_variables.proofs.Heading.{expands}
use Rattle.av_variables.proofs.laws.packed_sets_expand.Goals as goal

pub returns : goal.returns
returns c = λ p number first packs facts analysable are least expanded. expands p number first packs facts analysable are least expanded
