use Rattle.std.proofs.Common.{◌≡◌, ◌⊎◌, Some, take, Contains}
use Rattle.jv_world.specs.Steps.Building.{RowFor}
use Rattle.jv_world.proofs.links.row_of.Given as goal

-- the superclass and the interfaces so far
abbrev pub invariant-loop-name : goal.invariant-loop-name
invariant-loop-name l = RowFor (λ name. (l.shape.parent ≡ Some name) ⊎ Contains (take l.name-index l.name-items) name) l.names l.row.items
