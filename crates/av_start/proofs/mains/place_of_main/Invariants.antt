use Rattle.std.proofs.Common.{◌≡◌, ◌<◌, ℕ, Some}
use Rattle.std.specs.Prelude.{slice_get}
use Rattle.jv_types.specs.declared.shapes.MethodShape.{MethodShape}
use Rattle.av_start.specs.Steps.{LooksLikeMain}
use Rattle.av_start.proofs.mains.place_of_main.Given as goal

-- none of the methods before is a main
abbrev pub invariant-loop-place : goal.invariant-loop-place
invariant-loop-place l = (k : ℕ) (method : MethodShape) → k < l.place → slice_get l.methods k ≡ Some method → ¬ LooksLikeMain method
