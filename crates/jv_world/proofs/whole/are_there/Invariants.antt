use Rattle.std.proofs.Common.{ℕ, List, take, Contains}
use Rattle.jv_world.specs.Worlds.{IsNamed}
use Rattle.jv_world.proofs.whole.are_there.Given as goal

abbrev pub invariant-loop-name : goal.invariant-loop-name
invariant-loop-name l = (name : List ℕ) → Contains (take l.name-index l.wanted) name → (d : ℕ) × IsNamed l.shapes d name
