-- One lemma for each rule.
use Rattle.jv_insn.proofs.Leaving.{below_left, stays_left, moved_left, loaded_left, stored_left, given_anew}
use Rattle.jv_insn.proofs.word_laws.words_are_left.Goals as goal

pub returns : goal.returns
returns c = record { below = below_left; stays = stays_left; moved = moved_left; loaded = loaded_left; stored = stored_left; given = given_anew }
