use Rattle.std.proofs.lemmas.Result.{on_ok_weaker}
use Rattle.av_named.specs.Appending.{OfEach}
use Rattle.av_named.specs.Named.{BodyNames, ShapeNames}
use Rattle.av_named.proofs.Appending.{appends_both}
use Rattle.av_named.proofs.application.names_of_program.Goals as goal

pub returns : goal.returns
returns c =
    on_ok_weaker c.names_of_bodies.result
    (appends_both (OfEach ShapeNames c.args.shapes.now) (OfEach BodyNames c.args.bodies.now) c.args.out.now.items c.names_of_shapes.new.out.items c.names_of_bodies.new.out.items c.in_ok-names_of_shapes.ensures)
    c.names_of_bodies.ensures
