-- The instructions so far may be encoded.
use Rattle.std.proofs.Common.{◌≡◌, ℕ, false, take}
use Rattle.std.specs.List.{AllByRecursion}
use Rattle.jv_types.specs.declared.instruction.Insn.{Insn}
use Rattle.jv_insn.specs.Encoding.{is_left_out, StandsNear}
use Rattle.tests_code.proofs.encoding.may_encode.Given as goal

abbrev pub invariant-loop-row : goal.invariant-loop-row
invariant-loop-row l = AllByRecursion (λ (row : ℕ × Insn). (is_left_out row.1.arg ≡ false) × StandsNear l.pool row.1) (take l.row-index l.body.insns)
