-- Numbers on two sides: each side counts in a circle, and where both sides have a number, they meet there.
use Rattle.std.specs.Prelude.{◌≡◌, ℕ, ◌+◌, ◌<◌, ◌%◌, []}
use Rattle.std.specs.List.{Contains}
use Rattle.std.proofs.Common.{arith}
use Rattle.jv_fix.specs.Facts.{Premises, One, Two, IsClosed}

-- the number after one, of so many in a circle
abbrev pub after : ℕ → ℕ → ℕ
after size number = (number + 1) % size

-- A number on side 0 or 1 forces the next one on that side. The same number on both forces it on side 2.
abbrev pub meets : ℕ → Premises (ℕ × ℕ) → ℕ × ℕ → Type 0
meets size (One (side, number)) new = (side < 2) × (new ≡ (side, after size number))
meets size (Two (side, number) (other, same)) new = (side ≡ 0) × (other ≡ 1) × (number ≡ same) × (new ≡ (2, number))

-- no facts are closed under any rule
pub none_closed : (size : ℕ) → IsClosed (meets size) (Contains [])
none_closed size (One _) new (k, within, is) h = absurd (omega (arith, within))
none_closed size (Two _ _) new ((k, within, is), second) h = absurd (omega (arith, within))
