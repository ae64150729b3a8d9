use Rattle.std.proofs.lemmas.Result.{on_ok_weaker}
use Rattle.jv_two_worlds.specs.Types.{EndsIn}
use Rattle.av_collected.specs.Types.{MentionsClass}
use Rattle.av_named.proofs.Appending.{appends_both}
use Rattle.av_named.proofs.codes.names_of_method_ref.Goals as goal

pub returns : goal.returns
returns c =
    on_ok_weaker c.names_of_method_desc.result
    (appends_both (EndsIn c.args.r.now.class) (MentionsClass c.args.r.now.desc) c.args.out.now.items c.names_of_type.new.out.items c.names_of_method_desc.new.out.items c.in_ok-names_of_type.ensures)
    c.names_of_method_desc.ensures
