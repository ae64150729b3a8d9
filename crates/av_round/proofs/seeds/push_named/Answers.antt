use Rattle.std.proofs.Common.{ℕ, true, false, List}
use Rattle.std.proofs.lemmas.Result.{on_ok_weaker}
use Rattle.av_forcing.specs.Forcing.{Numbered}
use Rattle.av_named.specs.Appending.{OfEach}
use Rattle.av_named.proofs.Appending.{appends_both}
use Rattle.av_tables.specs.Steps.{known}
use Rattle.av_round.specs.Seeds.{SuperOf}
use Rattle.av_round.proofs.Shapes.{supers_numbered}
use Rattle.av_round.proofs.seeds.push_named.Goals as goal

pub returns : goal.returns
returns c =
    on_ok_weaker c.push_classes-2.result
    (λ h. appends_both (OfEach (Numbered (known c.args.classes.now) false) c.args.named.now) (λ fact. (name : List ℕ) × OfEach SuperOf c.args.app.now name × Numbered (known c.args.classes.now) true name fact)
    c.args.out.now.items c.push_classes.new.out.items c.push_classes-2.new.out.items c.in_ok-push_classes.ensures.ok
    (supers_numbered (known c.args.classes.now) c.args.app.now c.in_ok-supers.supers.items c.as_slice.result.now c.push_classes.new.out.items c.push_classes-2.new.out.items c.in_ok-supers.ensures c.as_slice.ensures.value h))
    c.push_classes-2.ensures.ok
