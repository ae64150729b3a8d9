use Rattle.std.proofs.Common.{◌≡◌, Some, sym, ◌∙◌}
use Rattle.std.proofs.lemmas.Result.{on_ok_weaker}
use Rattle.std.specs.Option.{option_copied}
use Rattle.jv_two_worlds.specs.Types.{EndsIn}
use Rattle.av_named.proofs.Appending.{appends_same}
use Rattle.av_named.proofs.Inner.{ends_from_inner, inner_from_ends}
use Rattle.av_named.proofs.types.names_of_type.Goals as goal

pub returns : goal.returns
returns c =
    on_ok_weaker c.push_some.result
    (appends_same (λ each. option_copied c.inner_name.result ≡ Some each) (EndsIn c.args.of.now) c.args.out.now.items c.push_some.new.out.items
    (λ x e. ends_from_inner c.args.of.now x (sym c.inner_name.ensures ∙ e)) (λ x h. c.inner_name.ensures ∙ inner_from_ends c.args.of.now x h))
    c.push_some.ensures
