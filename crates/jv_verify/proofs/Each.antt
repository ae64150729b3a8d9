-- What holds of each item of a list, as a loop finds it.
use Rattle.std.proofs.Common.{◌≡◌, ℕ, ◌≤◌, ◌<◌, List, length, take, get_or, All, subst, sym}
use Rattle.std.specs.List.{Contains}
use Rattle.std.proofs.lemmas.List.{take_all}
use Rattle.std.proofs.lemmas.List.Elements.{All-contains}

-- all were asked
pub passed : {X : Type 0} (P : X → Type 0) (xs : List X) (i : ℕ) → length xs ≤ i → All P (take i xs) → (x : X) → Contains xs x → P x
passed {X} P xs i le h x c = All-contains P xs x (subst (λ (ys : List X). All P ys) (take_all i xs le) h) c

-- one that was asked is one of the list
pub is_item : {X : Type 0} (xs : List X) (i : ℕ) (x : X) → i < length xs → x ≡ get_or xs i x → Contains xs x
is_item xs i x lt is = (i, lt, sym is)
