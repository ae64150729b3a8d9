-- Each row so far has its instruction.
use Rattle.std.proofs.Common.{take}
use Rattle.std.specs.List.{AllZip}
use Rattle.jv_insn.specs.Decoding.{IsRow}
use Rattle.jv_insn.proofs.insns.insns_of.Given as goal

abbrev pub invariant-loop-row : goal.invariant-loop-row
invariant-loop-row l = AllZip (IsRow l.pool l.max_locals l.rows) (take l.row-index l.rows) l.insns.items
