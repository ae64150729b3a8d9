-- What is lent, by its values.
use Rattle.std.specs.Prelude.{ℕ, List, Option, Some, None}
use Rattle.std.specs.Borrow.{Bor}

-- two texts that are lent
abbrev pub lent_pair : Option (Bor (List ℕ) × Bor (List ℕ)) → Option (List ℕ × List ℕ)
lent_pair None = None
lent_pair (Some pair) = Some (pair.0.now, pair.1.now)
