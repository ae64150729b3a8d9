-- The words so far, and those that are still read, are all of them.
use Rattle.std.proofs.Common.{◌≡◌, ◌-◌}
use Rattle.calls_form.specs.ClassesTypes.{types_at, arguments_at}
use Rattle.calls_form.proofs.LayoutLoops.{with_front}
use Rattle.calls_form.proofs.class_of_types.read_arguments.Given as goal

abbrev pub invariant-loop : goal.invariant-loop
invariant-loop l = with_front l.words.items (types_at (255 - l.counter) l.own l.rest) ≡ arguments_at l.own l.fn.receiver.items l.bytes
