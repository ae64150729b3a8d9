use Rattle.std.proofs.Common.{◌≡◌, ℕ, ◌++◌, take}
use Rattle.std.specs.List.{flat_map}
use Rattle.jv_types.specs.Bodies.{arg_targets}
use Rattle.jv_types.specs.declared.instruction.Insn.{Insn}
use Rattle.av_asm.proofs.targets.push_jumps.Given as goal

abbrev pub invariant-loop-row : goal.invariant-loop-row
invariant-loop-row l = l.targets.items ≡ l.fn.targets.items ++ flat_map (λ (row : ℕ × Insn). arg_targets row.1.arg) (take l.row-index l.insns)
