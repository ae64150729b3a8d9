-- Lists of just the values that have a property, in order.
use Rattle.std.specs.Prelude.{List, map, Contains}
use Rattle.std.specs.declared.cmp.Ordering.{Ordering}
use Rattle.std.specs.List.Sorted.{IsStrictlySortedBy}

-- Just the values that have the property, in rising order of their keys. No two of them have one key, and there is
-- one such list at most.
pub record AreJust {X K : Type 0} (order : K → K → Ordering) (key : X → K) (P : X → Type 0) (xs : List X) : Type 0 where
  pub rising : IsStrictlySortedBy order (map key xs)
  pub all : (x : X) → P x → Contains xs x
  pub only : (x : X) → Contains xs x → P x
