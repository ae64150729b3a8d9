-- What was read and what is still read are all of it.
use Rattle.std.proofs.Common.{◌≡◌, ◌-◌}
use Rattle.calls_form.specs.LayoutReading.{entries_at, indexed_at}
use Rattle.calls_form.proofs.LayoutLoops.{with_front}
use Rattle.calls_form.proofs.pool.read_indexed.Given as goal

abbrev pub invariant-loop : goal.invariant-loop
invariant-loop l = with_front l.entries.items (entries_at (l.indices - l.counter) l.wide l.rest) ≡ indexed_at l.indices l.bytes
