use Rattle.jv_world.specs.Steps.Building.{IsClear, AreLedFrom}
use Rattle.jv_world.proofs.closure.all_led.Given as goal

abbrev pub invariant-loop-number : goal.invariant-loop-number
invariant-loop-number l = record {
  clear : IsClear l.links l.search.marks.items l.search.found.items;
  rows : AreLedFrom l.links l.number l.rows.items;
}
