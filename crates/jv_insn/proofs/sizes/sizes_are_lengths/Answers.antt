use Rattle.jv_insn.proofs.ByteCounts.{size_of_text}
use Rattle.jv_insn.proofs.sizes.sizes_are_lengths.Goals as goal

pub returns : goal.returns
returns c = size_of_text
