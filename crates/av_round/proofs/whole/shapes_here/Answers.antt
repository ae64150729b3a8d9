use Rattle.std.proofs.Common.{List, [], length, Contains, subst}
use Rattle.jv_types.specs.declared.shapes.Shape.{Shape}
use Rattle.av_named.specs.Appending.{Appends}
use Rattle.av_named.proofs.Appending.{appends_all, appends_both}
use Rattle.av_tables.specs.Steps.{known}
use Rattle.av_round.specs.Steps.{IsHereBy, IsShapeBelow}
use Rattle.av_round.proofs.whole.shapes_here.Goals as goal

pub returns : goal.returns
returns c =
    let first = subst (λ (l : List Shape). Appends (Contains c.args.app.now) l c.push_copies.new.out.items) c.new-shapes.ensures.items c.in_ok-push_copies.ensures in
    appends_all (IsHereBy c.args.app.now (known c.args.classes.now)) c.push_all_read.new.out.items
    (appends_both (Contains c.args.app.now) (IsShapeBelow (length c.args.classes.now.names.items) (known c.args.classes.now)) [] c.push_copies.new.out.items c.push_all_read.new.out.items first c.in_ok-push_all_read.ensures)
