use Rattle.jv_world.proofs.SuperKinds.{HasItself-row}
use Rattle.jv_world.proofs.Searching.{row_there}
use Rattle.jv_world.proofs.causes.has_itself.Goals as goal

pub returns : goal.returns
returns c =
    let row = c.index-rows-place.result in
    HasItself-row c.args.rows.now c.args.place row c.contains.result (row_there c.args.rows.now c.args.place row c.requires.here c.index-rows-place.is) (rw c.as_slice.ensures.value at c.contains.ensures)
