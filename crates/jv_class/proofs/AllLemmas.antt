-- What holds of each item of a list, from what else does.
use Rattle.std.proofs.Common.{◌≡◌, ℕ, ◌≤◌, ◌<◌, true, false, List, length, take, get_or, All, subst, sym, refl}
use Rattle.std.specs.Prelude.{◌↔◌, IsTrue}
use Rattle.std.proofs.lemmas.List.{take_all}
use Rattle.std.proofs.lemmas.List.Elements.{recursion_from_All, All-from_recursion}
use Rattle.std.specs.List.{AllByRecursion}

-- ---- loops that ask each item

-- all of them were asked
pub each_passed : {X : Type 0} (P : X → Type 0) (xs : List X) (i : ℕ) → length xs ≤ i → All P (take i xs) → IsTrue true ↔ AllByRecursion P xs
each_passed {X} P xs i le h =
    (λ _. recursion_from_All P xs (subst (λ (ys : List X). All P ys) (take_all i xs le) h), λ _. refl)

-- one of them failed
pub one_failed : {X : Type 0} (P : X → Type 0) (xs : List X) (i : ℕ) (x : X) → i < length xs → x ≡ get_or xs i x → (P x → ⊥) → IsTrue false ↔ AllByRecursion P xs
one_failed {X} P xs i x lt is bad =
    (λ f. absurd cc, λ h. absurd (bad (subst P (sym is) (All-from_recursion P xs h i x lt))))

-- what doesn't hold
pub refuted : (P : Type 0) → (P → ⊥) → IsTrue false ↔ P
refuted P none = (λ f. absurd cc, λ h. absurd (none h))
