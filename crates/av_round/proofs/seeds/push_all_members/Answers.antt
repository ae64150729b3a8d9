use Rattle.std.proofs.lemmas.Result.{on_ok_weaker}
use Rattle.av_named.specs.Appending.{OfEach}
use Rattle.av_named.proofs.Appending.{appends_both}
use Rattle.av_tables.specs.Steps.{known}
use Rattle.av_round.specs.Seeds.{BodyFinds, CoreMethod}
use Rattle.av_round.proofs.seeds.push_all_members.Goals as goal

pub returns : goal.returns
returns c =
    on_ok_weaker c.push_core_methods.result
    (appends_both (OfEach (BodyFinds c.args.world.now (known c.args.classes.now)) c.args.bodies.now) (CoreMethod (known c.args.classes.now)) c.args.out.now.items c.push_referenced.new.out.items c.push_core_methods.new.out.items
    c.in_ok-push_referenced.ensures)
    c.push_core_methods.ensures
