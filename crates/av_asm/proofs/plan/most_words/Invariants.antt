use Rattle.std.proofs.Common.{◌≡◌, drop}
use Rattle.std.specs.Prelude.{max}
use Rattle.av_asm.specs.Planning.{most_words}
use Rattle.av_asm.proofs.plan.most_words.Given as goal

abbrev pub invariant-loop-frame : goal.invariant-loop-frame
invariant-loop-frame l = max l.most (most_words (drop l.frame-index l.frames)) ≡ most_words l.frames
