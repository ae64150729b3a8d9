use Rattle.std.proofs.Common.{◌≡◌, map, take}
use Rattle.av_sketching.specs.Steps.{kept_sketch}
use Rattle.av_sketching.proofs.collected.kept_methods.Given as goal

abbrev pub invariant-loop-declared : goal.invariant-loop-declared
invariant-loop-declared l = l.kept.items ≡ map (kept_sketch l.class) (take l.declared-index l.class.methods)
