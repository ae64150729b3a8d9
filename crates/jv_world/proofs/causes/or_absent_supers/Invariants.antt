use Rattle.std.proofs.Common.{◌≡◌, Some, take, slice_get, option_copied}
use Rattle.jv_types.specs.declared.shapes.Shape.{Shape}
use Rattle.jv_world.specs.Steps.Causes.{IsLeastOf}
use Rattle.jv_world.proofs.Absent.{SoFar}
use Rattle.jv_world.proofs.causes.or_absent_supers.Given as goal

abbrev pub invariant-loop-name : goal.invariant-loop-name
invariant-loop-name l =
    (shape : Shape) → slice_get l.fn.shapes l.fn.place ≡ Some shape → IsLeastOf (SoFar l.fn.shapes l.names l.fn.place shape (take l.name-index l.name-items)) (option_copied l.least)
