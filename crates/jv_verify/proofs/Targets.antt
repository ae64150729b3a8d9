-- A frame at the targets of an instruction.
use Rattle.std.proofs.Common.{◌≡◌, ℕ, List, ◌∷◌, ◌⊎◌, inl, inr, subst}
use Rattle.std.specs.Prelude.{◌↔◌, Contains}
use Rattle.jv_lists.proofs.Among.{first_or_later, is_later}
use Rattle.jv_types.specs.declared.shapes.Shape.{Shape}
use Rattle.jv_types.specs.declared.frames.Frame.{Frame}
use Rattle.jv_typing.specs.TypeSafe.{FitsThere}
use Rattle.jv_verify.specs.Steps.Checking.{StandsIn, FitsAtEach}

-- the default first, and then the others
pub later_decide : (w : List Shape) (rows : List (ℕ × Frame)) (default : ℕ) (targets : List ℕ) (frame : Frame) → FitsThere w (StandsIn rows) default frame
    → FitsAtEach w rows targets frame ↔ FitsAtEach w rows (default ∷ targets) frame
later_decide w rows default targets frame first = (
  λ fits target among. by_place target (first_or_later default targets target among) fits,
  λ fits target among. fits target (is_later default targets target among),
)
  where
    by_place : (target : ℕ) → (default ≡ target) ⊎ Contains targets target → FitsAtEach w rows targets frame → FitsThere w (StandsIn rows) target frame
    by_place target (inl e) fits = subst (λ (t : ℕ). FitsThere w (StandsIn rows) t frame) e first
    by_place target (inr more) fits = fits target more
