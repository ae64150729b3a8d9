use Rattle.std.proofs.Common.{ℕ, List, [], Contains, subst}
use Rattle.av_named.specs.Appending.{Appends, OfEach}
use Rattle.av_named.proofs.Appending.{appends_all, appends_both}
use Rattle.av_tables.specs.Mentions.{FileNames, IsMentioned}
use Rattle.av_tables.proofs.mentions.mentions.Goals as goal

pub returns : goal.returns
returns c =
    let first = subst (λ (l : List (List ℕ)). Appends (Contains c.args.named.now) l c.push_copies.new.out.items) c.new-names.ensures.items c.in_ok-push_copies.ensures in
    appends_all (IsMentioned c.args.named.now c.args.files.now) c.mention_files.new.out.items
    (appends_both (Contains c.args.named.now) (OfEach FileNames c.args.files.now) [] c.push_copies.new.out.items c.mention_files.new.out.items first c.in_ok-mention_files.ensures)
