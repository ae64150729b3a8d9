-- A number and its bits.
use Rattle.std.proofs.Common.{ℤ, subst}
use Rattle.std.specs.Int.{w32}
use Rattle.std.proofs.lemmas.Int.{to_z-of_z}
use mir.Val.{SFits, to_z, of_z}

-- what holds of a number's bits holds of the number
pub of_bits : (P : ℤ → Type 0) (z : ℤ) → SFits w32 z → P (to_z w32 (of_z w32 z)) → P z
of_bits P z fits h = subst P (to_z-of_z w32 z fits) h
