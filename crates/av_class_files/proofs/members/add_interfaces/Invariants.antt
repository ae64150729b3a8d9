-- The interfaces so far were put.
use Rattle.std.proofs.Common.{drop}
use Rattle.jv_insn.specs.Entries.{put_class}
use Rattle.av_class_files.proofs.Each.{IsPutSoFar}
use Rattle.av_class_files.proofs.members.add_interfaces.Given as goal

abbrev pub invariant-loop-name : goal.invariant-loop-name
invariant-loop-name l = IsPutSoFar put_class l.names (drop l.name-index l.names) l.fn.pool l.pool l.indices.items
