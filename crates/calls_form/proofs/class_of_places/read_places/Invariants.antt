-- The members before the place are apart, and the map has their places.
use Rattle.std.proofs.Common.{take}
use Rattle.calls_form.specs.ClassesPlaces.{HasPlaces, AreApart, all_texts}
use Rattle.calls_form.proofs.class_of_places.read_places.Given as goal

abbrev pub invariant-loop-place : goal.invariant-loop-place
invariant-loop-place l = record {
  places : HasPlaces (all_texts (take l.place l.labels)) l.places;
  apart : AreApart (all_texts (take l.place l.labels));
}
