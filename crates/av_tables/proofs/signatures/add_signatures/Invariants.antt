use Rattle.std.proofs.Common.{take}
use Rattle.av_tables.specs.Steps.{Gains}
use Rattle.av_tables.proofs.signatures.add_signatures.Given as goal

abbrev pub invariant-loop-method : goal.invariant-loop-method
invariant-loop-method l = Gains (take l.method-index l.methods) l.initial.set.keys l.set.keys
