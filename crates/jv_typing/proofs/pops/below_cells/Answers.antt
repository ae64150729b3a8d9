use Rattle.jv_typing.proofs.Popping.{same_below_more, none_below}
use Rattle.jv_typing.proofs.pops.below_cells.Goals as goal

pub loop-cell-preserved : goal.loop-cell-preserved
loop-cell-preserved c =
    same_below_more c.args.cells.now c.loop-cell.left.now c.in-Some.rest.now c.in-Some.cell.now c.args.stack.now c.loop-cell.below.now c.in-Some-below_cell.under.now
    c.loop-cell.invariant c.in-Some.ensures.cases.0 c.in-Some-below_cell.ensures.found

pub returns-in-None-clause-none : goal.returns-in-None-clause-none
returns-in-None-clause-none c =
    none_below c.args.cells.now c.loop-cell.left.now c.in-Some.rest.now c.in-Some.cell.now c.args.stack.now c.loop-cell.below.now
    c.loop-cell.invariant c.in-Some.ensures.cases.0 c.in-None.ensures.none
