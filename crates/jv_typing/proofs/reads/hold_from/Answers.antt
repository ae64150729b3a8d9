use Rattle.std.proofs.Common.{refl, All, subst}
use Rattle.std.proofs.lemmas.List.{take_all}
use Rattle.std.proofs.lemmas.List.Elements.{All-more}
use Rattle.jv_table.specs.declared.code_tables.Cell.TheVariants.{Int}
use Rattle.jv_typing.specs.Parts.{HoldsFrom}
use Rattle.jv_typing.proofs.reads.hold_from.Goals as goal

pub loop-cell-preserved : goal.loop-cell-preserved
loop-cell-preserved c =
    All-more (HoldsFrom c.args.locals.now c.args.local) c.args.cells.now c.loop-cell.cell-index Int c.loop-cell-test.true c.loop-cell.invariant (c.holds_from.ensures.0 c.if-not-holds_from.false)

pub returns : goal.returns
returns c =
    (λ yes. subst (All (HoldsFrom c.args.locals.now c.args.local)) (take_all c.loop-cell.cell-index c.args.cells.now c.loop-cell-test.false) c.loop-cell.invariant, λ all. refl)
