-- What is left rises above the last value, where all of it rises.
use Rattle.std.proofs.Common.{◌≡◌, drop}
use Rattle.jv_insn.specs.Layouts.{rises_above, values_rise}
use Rattle.jv_insn.proofs.reader.values_rise.Given as goal

abbrev pub invariant-loop-case : goal.invariant-loop-case
invariant-loop-case l = rises_above l.last (drop l.case-index l.rest) ≡ values_rise l.cases
