-- The labels so far are those of the heads before this one.
use Rattle.std.proofs.Common.{◌≡◌, map, take}
use Rattle.calls_form.specs.ClassesClass.{heading_texts}
use Rattle.calls_form.specs.ClassesHeads.{headings_of}
use Rattle.calls_form.specs.ClassesPlaces.{all_texts}
use Rattle.calls_form.proofs.class_of_labels.labels_of_heads.Given as goal

abbrev pub invariant-loop-head : goal.invariant-loop-head
invariant-loop-head l = all_texts l.labels.items ≡ map heading_texts (headings_of (take l.head-index l.heads))
