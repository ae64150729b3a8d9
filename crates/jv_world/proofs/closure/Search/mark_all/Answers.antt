use Rattle.std.proofs.Common.{arith}
use Rattle.std.proofs.lemmas.List.Elements.{Contains-get_or}
use Rattle.jv_world.proofs.Marking.{AddsAll-more}
use Rattle.jv_world.proofs.closure.Search.mark_all.Goals as goal

pub mark-requires-clause-here : goal.mark-requires-clause-here
mark-requires-clause-here c =
    let row = c.args.row.now in
    let below = c.requires.here _ (Contains-get_or row c.loop-class.class-index (record { number = 0 }) c.loop-class-test.true) in
    omega (arith, below, c.loop-class.invariant.count)

pub loop-class-preserved : goal.loop-class-preserved
loop-class-preserved c =
    AddsAll-more c.args.row.now c.loop-class.class-index _ _ _ _ _ _ _ c.loop-class-test.true c.loop-class.invariant c.in_ok-mark.ensures
