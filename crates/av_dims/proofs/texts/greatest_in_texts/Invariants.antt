use Rattle.std.proofs.Common.{take}
use Rattle.av_dims.specs.Greatest.{IsGreatest, OfSome, TextDims}
use Rattle.av_dims.proofs.texts.greatest_in_texts.Given as goal

abbrev pub invariant-loop-text : goal.invariant-loop-text
invariant-loop-text l = IsGreatest (OfSome TextDims (take l.text-index l.texts)) l.dims
