use Rattle.std.proofs.Common.{take, Contains, List, ℕ}
use Rattle.av_refused.proofs.application.has_any.Given as goal

abbrev pub invariant-loop-name : goal.invariant-loop-name
invariant-loop-name l = (name : List ℕ) → Contains (take l.name-index l.names) name → Contains l.list name → ⊥
