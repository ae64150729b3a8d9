use Rattle.std.proofs.Common.{List, subst, arith}
use Rattle.std.proofs.lemmas.Result.{on_ok_weaker}
use Rattle.jv_types.specs.declared.ids.ClassId.{ClassId}
use Rattle.jv_world.specs.Steps.Building.{Has}
use Rattle.jv_world.proofs.Searching.{row_there, AddsAll-links}
use Rattle.jv_world.proofs.closure.Search.follow.Goals as goal

pub mark_all-requires-clause-here : goal.mark_all-requires-clause-here
mark_all-requires-clause-here c =
    λ n has.
    let row = c.index-links-class.result in
    let P : List ClassId → Type 0 = λ l. Has l n in
    let there = row_there c.args.links.now c.args.class.number row c.requires.here c.index-links-class.is in
    let below = c.requires.range.below c.args.class.number n (row, there, subst P c.as_slice.ensures.value has) in
    omega (arith, below, c.requires.count)

pub returns : goal.returns
returns c =
    let row = c.index-links-class.result in
    let there = row_there c.args.links.now c.args.class.number row c.requires.here c.index-links-class.is in
    on_ok_weaker c.mark_all.result (AddsAll-links c.args.links.now c.args.class.number row _ _ _ _ there) (rw c.as_slice.ensures.value at c.mark_all.ensures)
