-- What was read and what is still read are all of it.
use Rattle.std.proofs.Common.{◌≡◌, ◌-◌}
use Rattle.calls_form.specs.LayoutReading.{methods_at}
use Rattle.calls_form.proofs.LayoutLoops.{with_front}
use Rattle.calls_form.proofs.methods.read_methods.Given as goal

abbrev pub invariant-loop : goal.invariant-loop
invariant-loop l = with_front l.methods.items (methods_at l.pool (l.count - l.counter) l.rest) ≡ methods_at l.pool l.count l.bytes
