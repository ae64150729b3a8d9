-- Each step of the loop, by the lemmas on reading entries one after the other.
use Rattle.std.proofs.Common.{◌≡◌, ◌∷◌, []}
use Rattle.std.proofs.lemmas.Result.{err_from_is_err_and}
use Rattle.calls_form.specs.declared.outline.Entry.TheVariants.{Unused}
use Rattle.calls_form.specs.LayoutReading.{indexed_at}
use Rattle.calls_form.proofs.LayoutLoops.{entries_begin, entry_goes_on, entry_ends, entries_are_done, entries_are_cut}
use Rattle.calls_form.proofs.pool.read_indexed.Goals as goal

pub loop-init : goal.loop-init
loop-init c =
    let e : c.push.new.self.items ≡ Unused ∷ [] = rw (c.in_ok-push.ensures.items, c.new-entries.ensures.items) in
    entries_begin c.push.new.self.items c.args.indices c.args.bytes.now e

pub returns-in_err-entry : goal.returns-in_err-entry
returns-in_err-entry c =
    let p = err_from_is_err_and c.from_residual-in_err-entry.result c.from_residual-in_err-entry.ensures.1 in
    rw (p.1, p.2) (entry_ends c.in_err-entry.field-0.0 c.loop.entries.items c.args.indices c.loop.counter c.loop.wide c.loop.rest.now (indexed_at c.args.indices c.args.bytes.now) c.loop-test.true c.in_err-entry.ensures c.loop.invariant)

pub loop-preserved : goal.loop-preserved
loop-preserved c =
    rw c.in_ok-push-2.ensures.items (entry_goes_on c.loop.entries.items c.args.indices c.loop.counter c.loop.wide c.in_ok-entry.takes_two c.loop.rest.now c.in_ok-entry.after.now c.in_ok-entry.entry (indexed_at c.args.indices c.args.bytes.now) c.loop-test.true c.in_ok-entry.ensures c.loop.invariant)

pub returns-then-wide : goal.returns-then-wide
returns-then-wide c = entries_are_cut c.loop.entries.items c.args.indices c.loop.counter c.loop.wide c.loop.rest.now (indexed_at c.args.indices c.args.bytes.now) c.loop-test.false c.if-wide.true c.loop.invariant

pub returns : goal.returns
returns c = entries_are_done c.loop.entries.items c.args.indices c.loop.counter c.loop.wide c.loop.rest.now (indexed_at c.args.indices c.args.bytes.now) c.loop-test.false c.if-wide.false c.loop.invariant
