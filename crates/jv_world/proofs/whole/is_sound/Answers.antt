use Rattle.jv_world.proofs.Wholes.{sound_by, unsound_absent, unsound_wrong}
use Rattle.jv_world.proofs.whole.is_sound.Goals as goal
use Rattle.jv_lists.proofs.Places.{read_at}

pub returns-then-not-has_supers_there : goal.returns-then-not-has_supers_there
returns-then-not-has_supers_there c =
    let shape = c.index-shapes-place.result in
    unsound_absent c.args.shapes.now c.args.place shape c.has_supers_there.result (read_at c.args.shapes.now c.args.place shape c.requires.here c.index-shapes-place.is)
    c.has_supers_there.ensures c.if-not-has_supers_there.true

pub returns-then-not-has_right_supers : goal.returns-then-not-has_right_supers
returns-then-not-has_right_supers c =
    let shape = c.index-shapes-place.result in
    unsound_wrong c.args.shapes.now c.args.place shape c.has_right_supers.result (read_at c.args.shapes.now c.args.place shape c.requires.here c.index-shapes-place.is)
    c.has_right_supers.ensures c.if-not-has_right_supers.true

pub returns : goal.returns
returns c =
    let shape = c.index-shapes-place.result in
    sound_by c.args.shapes.now c.args.place shape c.has_supers_there.result c.has_right_supers.result c.is_circular.result
    (read_at c.args.shapes.now c.args.place shape c.requires.here c.index-shapes-place.is)
    c.has_supers_there.ensures c.has_right_supers.ensures c.is_circular.ensures c.if-not-has_supers_there.false c.if-not-has_right_supers.false
