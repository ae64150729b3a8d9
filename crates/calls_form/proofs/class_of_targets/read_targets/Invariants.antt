-- The table has what each index before this one names.
use Rattle.std.proofs.Common.{◌≡◌, ℕ, ◌<◌, length, Some}
use Rattle.std.specs.List.{slice_get}
use Rattle.calls_form.specs.ClassesPlaces.{all_texts, target_of}
use Rattle.calls_form.proofs.class_of_targets.read_targets.Given as goal

abbrev pub invariant-loop-index : goal.invariant-loop-index
invariant-loop-index l = record {
  len : length l.targets.items ≡ l.index;
  known : (k : ℕ) → k < l.index → slice_get l.targets.items k ≡ Some (target_of l.pool l.own (all_texts l.fields.labels.now) (all_texts l.methods.labels.now) k);
}
