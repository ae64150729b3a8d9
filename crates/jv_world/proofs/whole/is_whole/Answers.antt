use Rattle.std.proofs.Common.{◌<◌, length, refl, arith}
use Rattle.jv_world.specs.Steps.Building.{marked}
use Rattle.jv_world.proofs.Searching.{row_there}
use Rattle.jv_world.proofs.Wholes.{not_whole, row_below, whole_by}
use Rattle.jv_world.proofs.whole.is_whole.Goals as goal

pub are_marked-requires : goal.are_marked-requires
are_marked-requires c =
    let row = c.index-rows-place.result in
    let within : c.args.place < length c.args.rows.now = omega (arith, c.requires.supers.count, c.requires.here) in
    rw c.as_slice.ensures.value
    (λ n has. row_below c.args.shapes.now c.args.rows.now c.args.marks.now c.args.place n row c.requires.marks c.requires.supers
    (row_there c.args.rows.now c.args.place row within c.index-rows-place.is) has)

pub returns-then-not-marks-place : goal.returns-then-not-marks-place
returns-then-not-marks-place c =
    not_whole c.args.shapes.now c.args.marks.now c.args.place (marked c.args.marks.now c.args.place) c.requires.marks c.requires.here refl c.if-not-marks-place.true

pub returns : goal.returns
returns c =
    let row = c.index-rows-place.result in
    let within : c.args.place < length c.args.rows.now = omega (arith, c.requires.supers.count, c.requires.here) in
    whole_by c.args.shapes.now c.args.rows.now c.args.marks.now c.args.place row (marked c.args.marks.now c.args.place) c.are_marked.result c.requires.marks c.requires.supers c.requires.here
    (row_there c.args.rows.now c.args.place row within c.index-rows-place.is) refl c.if-not-marks-place.false (rw c.as_slice.ensures.value at c.are_marked.ensures)
