use Rattle.std.proofs.Common.{◌+◌, sym, subst}
use Rattle.jv_resolve.proofs.Tests.{denied}
use Rattle.av_tables.specs.Steps.{known}
use Rattle.av_round.specs.Steps.{AreEntriesBelow}
use Rattle.av_round.proofs.Entries.{entry_less, entry_more}
use Rattle.av_round.proofs.listing.push_entry.Goals as goal

pub returns-then-not-has : goal.returns-then-not-has
returns-then-not-has c =
    entry_less (known c.args.classes.now) c.args.found.now c.args.class c.args.out.now.items (denied c.has.result c.if-not-has.true c.has.ensures.1)

pub returns : goal.returns
returns c = λ before.
    subst (AreEntriesBelow (known c.args.classes.now) c.args.found.now (c.args.class + 1)) (sym c.in_ok-push.ensures.items)
    (entry_more (known c.args.classes.now) c.args.found.now c.requires.rising c.args.class c.args.out.now.items c.in_ok-entry.entry (c.has.ensures.0 c.if-not-has.false) c.in_ok-entry.ensures before)
