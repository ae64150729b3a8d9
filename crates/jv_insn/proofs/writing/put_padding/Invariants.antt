-- As many zeros so far.
use Rattle.std.proofs.Common.{◌≡◌, ◌++◌}
use Rattle.std.proofs.Math.ListN.{replicate}
use Rattle.jv_insn.proofs.writing.put_padding.Given as goal

abbrev pub invariant-loop : goal.invariant-loop
invariant-loop l = l.writer ≡ l.fn.writer ++ replicate l.counter 0
