use Rattle.std.proofs.Common.{◌≡◌, ◌-◌, ◌^◌, min, sum_by, take}
use Rattle.jv_desc.specs.Texts.{desc_words}
use Rattle.jv_desc.proofs.words.arg_words.Given as goal

abbrev pub invariant-loop-param : goal.invariant-loop-param
invariant-loop-param l = l.words ≡ min (sum_by desc_words (take l.param-index l.param-items)) (2 ^ 32 - 1)
