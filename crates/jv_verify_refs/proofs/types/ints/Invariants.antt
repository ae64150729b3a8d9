use Rattle.std.proofs.Common.{◌≡◌, replicate}
use Rattle.jv_types.specs.declared.frames.VType.{Integer}
use Rattle.jv_verify_refs.proofs.types.ints.Given as goal

abbrev pub invariant-loop-place : goal.invariant-loop-place
invariant-loop-place l = l.types.items ≡ replicate l._place Integer
