use Rattle.std.proofs.Common.{◌↔◌, ℕ, ◌<◌, Contains}
use Rattle.calls_model.specs.First.Machine.{IsFinalize}
use Rattle.calls_facts.proofs.first.prepared.finalizer_places.Given as goal

-- the finalizers among the first methods
abbrev pub invariant-loop-place : goal.invariant-loop-place
invariant-loop-place l = (to : ℕ) → Contains l.places.items to ↔ ((to < l.place) × IsFinalize l.class to)
