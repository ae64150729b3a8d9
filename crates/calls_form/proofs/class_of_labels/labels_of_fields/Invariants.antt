-- The labels so far are those of the fields before this one.
use Rattle.std.proofs.Common.{◌≡◌, map, take}
use Rattle.calls_form.specs.ClassesClass.{field_texts}
use Rattle.calls_form.specs.ClassesPlaces.{all_texts}
use Rattle.calls_form.proofs.class_of_labels.labels_of_fields.Given as goal

abbrev pub invariant-loop-field : goal.invariant-loop-field
invariant-loop-field l = all_texts l.labels.items ≡ map field_texts (take l.field-index l.fields)
