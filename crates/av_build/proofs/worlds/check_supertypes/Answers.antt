use Rattle.av_given.specs.Givens.{application_of}
use Rattle.av_build.proofs.worlds.check_supertypes.Goals as goal

pub whole_world-requires-clause-numbered : goal.whole_world-requires-clause-numbered
whole_world-requires-clause-numbered c =
    rw (c.in_ok-shapes.ensures, c.into_vec.ensures, c.into_vec-2.ensures, c.in_ok-front.ensures, c.in_ok-behind.ensures)
    (c.whole_classes_are_complete.ensures.numbered c.args.app.now.files.items (application_of c.args.app.now.given) c.args.found.now c.requires.known c.requires.collected)

pub whole_world-requires-clause-there : goal.whole_world-requires-clause-there
whole_world-requires-clause-there c =
    rw (c.in_ok-shapes.ensures, c.into_vec.ensures, c.into_vec-2.ensures, c.in_ok-front.ensures, c.in_ok-behind.ensures)
    (c.whole_classes_are_complete.ensures.there (application_of c.args.app.now.given) c.args.found.now c.requires.collected)

pub whole_world-requires-clause-distinct : goal.whole_world-requires-clause-distinct
whole_world-requires-clause-distinct c =
    rw (c.in_ok-shapes.ensures, c.into_vec.ensures, c.into_vec-2.ensures, c.in_ok-front.ensures, c.in_ok-behind.ensures)
    (c.whole_classes_are_complete.ensures.distinct c.args.app.now.files.items (application_of c.args.app.now.given) c.args.found.now c.requires.known c.requires.collected).methods
