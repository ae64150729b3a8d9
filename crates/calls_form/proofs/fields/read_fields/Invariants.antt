-- What was read and what is still read are all of it.
use Rattle.std.proofs.Common.{◌≡◌, ◌-◌}
use Rattle.calls_form.specs.LayoutReading.{fields_at}
use Rattle.calls_form.proofs.LayoutLoops.{with_front}
use Rattle.calls_form.proofs.fields.read_fields.Given as goal

abbrev pub invariant-loop : goal.invariant-loop
invariant-loop l = with_front l.fields.items (fields_at (l.count - l.counter) l.rest) ≡ fields_at l.count l.bytes
