-- The types of the words so far are written.
use Rattle.std.proofs.Common.{drop}
use Rattle.av_asm.specs.Mapping.{put_type, values_from, values_of}
use Rattle.av_asm.proofs.Putting.{IsPutSoFar}
use Rattle.av_asm.proofs.map_types.map_types.Given as goal

abbrev pub invariant-loop-word : goal.invariant-loop-word
invariant-loop-word l = IsPutSoFar put_type (values_of l.words) (values_from l.second (drop l.word-index l.words)) l.fn.pool l.pool l.types.items
