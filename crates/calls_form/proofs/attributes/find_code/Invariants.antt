-- What the rest gives, with what was found, is what all gives.
use Rattle.std.proofs.Common.{◌≡◌, ◌-◌, None}
use Rattle.calls_form.specs.LayoutReading.{code_at}
use Rattle.calls_form.proofs.attributes.find_code.Given as goal

abbrev pub invariant-loop : goal.invariant-loop
invariant-loop l = code_at l.pool (l.count - l.counter) l.found l.rest ≡ code_at l.pool l.count None l.bytes
