use Rattle.std.proofs.Common.{◌≡◌, ℕ, length, sym, subst, arith}
use Rattle.av_tables.specs.Steps.{known}
use Rattle.av_round.specs.Steps.{AreEntriesBelow}
use Rattle.av_round.proofs.Entries.{no_entries}
use Rattle.av_round.proofs.listing.entries_of.Goals as goal

pub loop-class-init : goal.loop-class-init
loop-class-init c =
    subst (AreEntriesBelow (known c.args.classes.now) c.args.found.now 0) (sym c.new-entries.ensures.items) (no_entries (known c.args.classes.now) c.args.found.now)

pub loop-class-preserved : goal.loop-class-preserved
loop-class-preserved c = c.in_ok-push_entry.ensures c.loop-class.invariant

pub returns : goal.returns
returns c =
    let ok = c.args.classes.now.names.ok in
    let n : c.loop-class.class ≡ length c.args.classes.now.names.items = omega (arith, c.loop-class-test.false, c.len-class-end.ensures, ok) in
    subst (λ (x : ℕ). AreEntriesBelow (known c.args.classes.now) c.args.found.now x c.loop-class.entries.items) n c.loop-class.invariant
