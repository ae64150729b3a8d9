use Rattle.std.proofs.Common.{length}
use Rattle.jv_verify_refs.proofs.moves.+are_whole.Given as goal

abbrev pub decreases-are_whole : goal.decreases-are_whole
decreases-are_whole l = length l.words.now
