use Rattle.std.proofs.Common.{◌⊎◌, ℕ, List, [], subst}
use Rattle.av_named.specs.Appending.{Appends, OfEach}
use Rattle.av_named.specs.Named.{ApplicationNames, BodyNames, IsCore, ShapeNames, TextNames}
use Rattle.av_named.proofs.Appending.{appends_all, appends_both}
use Rattle.av_named.proofs.application.application_names.Goals as goal

pub returns : goal.returns
returns c =
    let first = subst (λ (l : List (List ℕ)). Appends (λ name. OfEach ShapeNames c.args.app.now name ⊎ OfEach BodyNames c.args.bodies.now name) l c.names_of_program.new.out.items) c.new-names.ensures.items c.in_ok-names_of_program.ensures in
    appends_all (ApplicationNames (record { shapes = c.args.app.now; maps = c.args.maps.now; bodies = c.args.bodies.now })) c.names_besides.new.out.items
    (appends_both (λ name. OfEach ShapeNames c.args.app.now name ⊎ OfEach BodyNames c.args.bodies.now name) (λ name. OfEach TextNames c.args.maps.now name ⊎ IsCore name) [] c.names_of_program.new.out.items c.names_besides.new.out.items
    first c.in_ok-names_besides.ensures)
