use Rattle.std.proofs.Common.{◌≡◌, ℕ, Option, None, Some, length, slice_get}
use Rattle.av_tables.proofs.places.no_places.Given as goal

abbrev pub invariant-loop-class : goal.invariant-loop-class
invariant-loop-class l = record {
  count : length l.places.items ≡ l.class;
  none : (c : ℕ) (place : Option ℕ) → slice_get l.places.items c ≡ Some place → place ≡ None;
}
