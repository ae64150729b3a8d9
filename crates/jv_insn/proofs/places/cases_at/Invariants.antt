-- Each case so far leads to its target.
use Rattle.std.proofs.Common.{take}
use Rattle.std.specs.List.{AllZip}
use Rattle.jv_insn.specs.Meanings.{LeadsCase}
use Rattle.jv_insn.proofs.places.cases_at.Given as goal

abbrev pub invariant-loop-case : goal.invariant-loop-case
invariant-loop-case l = AllZip (LeadsCase l.rows l.pc) (take l.case-index l.cases) l.targets.items
