use Rattle.std.proofs.Common.{◌≡◌, ◌++◌, replicate}
use Rattle.jv_types.specs.declared.frames.VType.{Top}
use Rattle.av_templates.proofs.frames.pad.Given as goal

abbrev pub invariant-loop-place : goal.invariant-loop-place
invariant-loop-place l = l.words.items ≡ l.fn.words.items ++ replicate l._place Top
