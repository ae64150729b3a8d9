use Rattle.std.proofs.Common.{◌≡◌, map, take}
use Rattle.jv_types.specs.declared.frames.VType.{Top}
use Rattle.jv_verify_refs.proofs.types.tops.Given as goal

abbrev pub invariant-loop-cell : goal.invariant-loop-cell
invariant-loop-cell l = l.types.items ≡ map (λ cell. Top) (take l._cell-index l.cells)
