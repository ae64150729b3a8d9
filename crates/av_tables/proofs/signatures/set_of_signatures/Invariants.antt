use Rattle.std.proofs.Common.{take}
use Rattle.av_tables.specs.Steps.{HaveSignatures}
use Rattle.av_tables.proofs.signatures.set_of_signatures.Given as goal

abbrev pub invariant-loop-file : goal.invariant-loop-file
invariant-loop-file l = HaveSignatures (take l.file-index l.files) l.set.keys
