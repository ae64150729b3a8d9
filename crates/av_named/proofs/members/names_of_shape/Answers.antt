use Rattle.std.proofs.lemmas.Result.{on_ok_weaker}
use Rattle.jv_world.specs.Worlds.{NamesSuper}
use Rattle.av_named.specs.Named.{MemberNames}
use Rattle.av_named.proofs.Appending.{appends_both}
use Rattle.av_named.proofs.members.names_of_shape.Goals as goal

pub returns : goal.returns
returns c =
    on_ok_weaker c.names_of_members.result
    (appends_both (NamesSuper c.args.shape.now) (MemberNames c.args.shape.now) c.args.out.now.items c.names_of_supers.new.out.items c.names_of_members.new.out.items c.in_ok-names_of_supers.ensures)
    c.names_of_members.ensures
