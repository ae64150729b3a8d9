use Rattle.std.proofs.lemmas.Result.{on_ok_weaker}
use Rattle.std.proofs.Common.{◌≡◌}
use Rattle.av_collected.specs.Types.{HasClass}
use Rattle.av_named.proofs.Appending.{appends_both}
use Rattle.av_named.proofs.codes.names_of_field_ref.Goals as goal

pub returns : goal.returns
returns c =
    on_ok_weaker c.names_of_desc.result
    (appends_both (λ name. c.args.r.now.class ≡ name) (HasClass c.args.r.now.desc) c.args.out.now.items c.push_copy.new.out.items c.names_of_desc.new.out.items c.in_ok-push_copy.ensures)
    c.names_of_desc.ensures
