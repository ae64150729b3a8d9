use Rattle.std.proofs.Common.{ℕ, ◌↔◌, List, take, Contains}
use Rattle.av_tables.proofs.names.set_of.Given as goal

abbrev pub invariant-loop-name : goal.invariant-loop-name
invariant-loop-name l = (each : List ℕ) → Contains l.set.keys each ↔ Contains (take l.name-index l.names) each
