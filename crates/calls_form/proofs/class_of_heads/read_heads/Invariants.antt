-- The methods before the place, and then those from there on, are all of them.
use Rattle.std.proofs.Common.{◌≡◌, drop}
use Rattle.calls_form.specs.ClassesHeads.{headings_of, headings_at}
use Rattle.calls_form.proofs.ClassesLoops.{with_front}
use Rattle.calls_form.proofs.class_of_heads.read_heads.Given as goal

abbrev pub invariant-loop-raw : goal.invariant-loop-raw
invariant-loop-raw l = with_front (headings_of l.heads.items) (headings_at l.pool (drop l.raw-index l.raws)) ≡ headings_at l.pool l.raws
