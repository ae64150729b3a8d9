-- The cases so far are written.
use Rattle.std.proofs.Common.{◌≡◌, ◌++◌, take}
use Rattle.std.specs.List.{flat_map}
use Rattle.jv_insn.specs.Encoding.{case_text}
use Rattle.jv_insn.proofs.writing.put_cases.Given as goal

abbrev pub invariant-loop-case : goal.invariant-loop-case
invariant-loop-case l = l.writer ≡ l.fn.writer ++ flat_map (case_text l.pc) (take l.case-index l.cases)
