use Rattle.std.proofs.Common.{ℕ, List, subst}
use Rattle.av_named.specs.Appending.{Appends, OfEach}
use Rattle.av_named.proofs.Appending.{appends_all}
use Rattle.av_round.specs.Seeds.{SuperOf}
use Rattle.av_round.proofs.seeds.all_supers.Goals as goal

pub returns : goal.returns
returns c =
    appends_all (OfEach SuperOf c.args.app.now) c.names_of_all_supers.new.out.items
    (subst (λ (l : List (List ℕ)). Appends (OfEach SuperOf c.args.app.now) l c.names_of_all_supers.new.out.items) c.new-names.ensures.items c.in_ok-names_of_all_supers.ensures)
