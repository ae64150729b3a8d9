use Rattle.std.proofs.Common.{◌≡◌, ◌-◌, ◌^◌, length, min, sum_by, take}
use Rattle.jv_types.specs.declared.frames.VType.{VType}
use Rattle.jv_frames.specs.Types.{type_words}
use Rattle.jv_frames.proofs.words.word_count.Given as goal

abbrev pub invariant-loop-of : goal.invariant-loop-of
invariant-loop-of l = l.words ≡ min (sum_by (λ (type : VType). length (type_words type)) (take l.of-index l.types)) (2 ^ 32 - 1)
