-- Counts of calls and of faults, which are kept in 64 bits and stay at their last value once they reach it.
use Rattle.std.specs.Prelude.{◌≡◌, ◌+◌, ◌<◌, ◌⊎◌, ℕ, min}

-- the count has risen, or it is at its last value
abbrev pub Rises : ℕ → ℕ → Type 0
Rises old new = (old < new) ⊎ (new ≡ 18446744073709551615)

-- a count after one more
abbrev pub one_more : ℕ → ℕ
one_more count = min (count + 1) 18446744073709551615
