-- Each offset so far leads to its target.
use Rattle.std.proofs.Common.{take}
use Rattle.std.specs.List.{AllZip}
use Rattle.jv_insn.specs.Meanings.{LeadsTo}
use Rattle.jv_insn.proofs.places.targets_at.Given as goal

abbrev pub invariant-loop-offset : goal.invariant-loop-offset
invariant-loop-offset l = AllZip (LeadsTo l.rows l.pc) (take l.offset-index l.offsets) l.targets.items
