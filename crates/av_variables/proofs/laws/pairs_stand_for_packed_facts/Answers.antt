use Rattle.av_variables.proofs.Pairing.{unpairs}
use Rattle.av_variables.proofs.laws.pairs_stand_for_packed_facts.Goals as goal

pub returns : goal.returns
returns c = λ p number paired pair fact seeds pairs packs are seeded least unpaired. unpairs p number paired pair fact seeds pairs packs are seeded least unpaired
