use Rattle.std.proofs.Common.{◌⊎◌, ℕ, true, false, List, [], subst}
use Rattle.av_forcing.specs.Forcing.{Numbered}
use Rattle.av_forcing.specs.declared.fact.RoundFact.{RoundFact}
use Rattle.av_named.specs.Appending.{Appends, OfEach}
use Rattle.av_named.proofs.Appending.{appends_all, appends_both}
use Rattle.av_tables.specs.Steps.{known}
use Rattle.av_round.specs.Seeds.{BodyFinds, CoreMethod, IsSeed, SuperOf}
use Rattle.av_round.proofs.seeds.seeds_of.Goals as goal

pub returns : goal.returns
returns c =
    let P : RoundFact → Type 0 = λ fact. OfEach (Numbered (known c.args.classes.now) false) c.args.named.now fact ⊎ ((name : List ℕ) × OfEach SuperOf c.args.app.now name × Numbered (known c.args.classes.now) true name fact) in
    let Q : RoundFact → Type 0 = λ fact. OfEach (BodyFinds c.args.world.now (known c.args.classes.now)) c.args.bodies.now fact ⊎ CoreMethod (known c.args.classes.now) fact in
    let first = subst (λ (l : List RoundFact). Appends P l c.push_named.new.out.items) c.new-seeds.ensures.items c.in_ok-push_named.ensures in
    appends_all (IsSeed c.args.world.now (known c.args.classes.now) c.args.app.now c.args.named.now c.args.bodies.now) c.push_all_members.new.out.items
    (appends_both P Q [] c.push_named.new.out.items c.push_all_members.new.out.items first c.in_ok-push_all_members.ensures)
