-- The fields before the place, and then those from there on, are all of them.
use Rattle.std.proofs.Common.{◌≡◌, drop}
use Rattle.calls_form.specs.ClassesHeads.{field_at, each}
use Rattle.calls_form.proofs.ClassesLoops.{with_front}
use Rattle.calls_form.proofs.class_of_fields.read_fields.Given as goal

abbrev pub invariant-loop-raw : goal.invariant-loop-raw
invariant-loop-raw l = with_front l.fields.items (each (field_at l.pool l.own) (drop l.raw-index l.raws)) ≡ each (field_at l.pool l.own) l.raws
