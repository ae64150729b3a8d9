-- None of the names so far leads to a target.
use Rattle.std.proofs.Common.{◌≡◌, ℕ, ◌<◌, List, Some}
use Rattle.std.specs.List.{slice_get}
use Rattle.jv_world.specs.Worlds.{IsNamed}
use Rattle.jv_resolve.specs.DepthFirst.{LeadsUpTo}
use Rattle.jv_resolve.specs.Steps.Targets.{IsTarget}
use Rattle.jv_resolve.proofs.depth_first.leading_of.Given as goal

abbrev pub invariant-loop-name : goal.invariant-loop-name
invariant-loop-name l = (k : ℕ) (other : List ℕ) (e : ℕ) → k < l.name-index → slice_get l.names k ≡ Some other → IsNamed l.world e other → LeadsUpTo l.world (IsTarget l.targets) e → ⊥
