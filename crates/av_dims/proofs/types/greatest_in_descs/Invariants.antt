use Rattle.std.proofs.Common.{take}
use Rattle.av_dims.specs.Greatest.{IsGreatest, OfSome, DescDims}
use Rattle.av_dims.proofs.types.greatest_in_descs.Given as goal

abbrev pub invariant-loop-desc : goal.invariant-loop-desc
invariant-loop-desc l = IsGreatest (OfSome DescDims (take l.desc-index l.descs)) l.dims
