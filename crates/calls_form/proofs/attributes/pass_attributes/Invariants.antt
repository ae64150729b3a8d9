-- What is left behind the rest is what is left behind all.
use Rattle.std.proofs.Common.{◌≡◌, ◌-◌}
use Rattle.calls_form.specs.LayoutReading.{behind_at}
use Rattle.calls_form.proofs.attributes.pass_attributes.Given as goal

abbrev pub invariant-loop : goal.invariant-loop
invariant-loop l = behind_at (l.count - l.counter) l.rest ≡ behind_at l.count l.bytes
