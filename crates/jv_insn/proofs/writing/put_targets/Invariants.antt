-- The targets so far are written.
use Rattle.std.proofs.Common.{◌≡◌, ◌++◌, ℕ, take}
use Rattle.std.specs.List.{flat_map}
use Rattle.jv_insn.specs.Layouts.{s4_text}
use Rattle.jv_insn.specs.Encoding.{branch_offset}
use Rattle.jv_insn.proofs.writing.put_targets.Given as goal

abbrev pub invariant-loop-target : goal.invariant-loop-target
invariant-loop-target l = l.writer ≡ l.fn.writer ++ flat_map (λ (target : ℕ). s4_text (branch_offset l.pc target)) (take l.target-index l.targets)
