-- The elements of a list at places that have a property.
use Rattle.std.proofs.Common.{◌≡◌, ℕ, zero, suc, ◌+◌, inl, inr, ⊎_elim, List, [], ◌∷◌, Some, Contains, slice_get, refl, sym, ap, ◌∙◌, subst, arith}
use Rattle.std.proofs.lemmas.Option.{none-some}
use Rattle.jv_lists.proofs.Among.{none_there, first_or_later}
use Rattle.jv_lists.proofs.Places.{among_at}
use Rattle.av_collected.specs.Answers.{Picks}

-- an element of a list that stands at a place with the property
pub record IsAt {X : Type 0} (P : ℕ → Type 0) (from : ℕ) (xs : List X) (x : X) : Type 0 where
  pub place : ℕ
  pub stands : slice_get xs place ≡ Some x
  pub has : P (from + place)

is_later : {X : Type 0} (P : ℕ → Type 0) (from : ℕ) (y : X) (xs : List X) (x : X) → IsAt P (suc from) xs x → IsAt P from (y ∷ xs) x
is_later P from y xs x at = record { place = suc at.place; stands = at.stands; has = subst P (omega arith) at.has }

-- what was picked stands at such a place
pub picked_at : {X : Type 0} (P : ℕ → Type 0) (from : ℕ) (xs picked : List X) → Picks P from xs picked → (x : X) → Contains picked x → IsAt P from xs x
picked_at {X} P from [] picked none x among = absurd (none_there x (subst (λ (l : List X). Contains l x) none among))
picked_at {X} P from (y ∷ xs) picked (inl (first, rest, is, more)) x among =
    ⊎_elim
    (λ (same : y ≡ x). record { place = 0; stands = ap (λ (a : X). Some a) same; has = subst P (omega arith) first })
    (λ later. is_later P from y xs x (picked_at P (suc from) xs rest more x later))
    (first_or_later y rest x (subst (λ (l : List X). Contains l x) is among))
picked_at P from (y ∷ xs) picked (inr (lacks, more)) x among = is_later P from y xs x (picked_at P (suc from) xs picked more x among)

-- no element stands at two places
abbrev pub StandsOnce : {X : Type 0} → List X → Type 0
StandsOnce {X} xs = (i j : ℕ) (x : X) → slice_get xs i ≡ Some x → slice_get xs j ≡ Some x → i ≡ j

once_behind : {X : Type 0} (y : X) (xs : List X) → StandsOnce (y ∷ xs) → StandsOnce xs
once_behind y xs once i j x p q = let e : suc i ≡ suc j = once (suc i) (suc j) x p q in omega (arith, e)

-- the first element stands nowhere behind
first_once : {X : Type 0} (P : ℕ → Type 0) (from : ℕ) (y : X) (xs rest : List X) → Picks P from xs rest → StandsOnce (y ∷ xs) → (j : ℕ) → slice_get rest j ≡ Some y → ⊥
first_once P from y xs rest more once j q =
    let at = picked_at P from xs rest more y (among_at rest j y q) in
    let e : 0 ≡ suc at.place = once 0 (suc at.place) y refl at.stands in
    absurd (omega (arith, e))

both_once : {X : Type 0} (P : ℕ → Type 0) (from : ℕ) (y : X) (xs rest : List X) → Picks P from xs rest → StandsOnce (y ∷ xs) → StandsOnce rest → StandsOnce (y ∷ rest)
both_once P from y xs rest more once others zero zero x p q = refl
both_once {X} P from y xs rest more once others zero (suc j) x p q =
    absurd (first_once P from y xs rest more once j (q ∙ sym p))
both_once {X} P from y xs rest more once others (suc i) zero x p q =
    absurd (first_once P from y xs rest more once i (p ∙ sym q))
both_once P from y xs rest more once others (suc i) (suc j) x p q = let e = others i j x p q in omega (arith, e)

-- where no element stands at two places, none that was picked does
pub picked_once : {X : Type 0} (P : ℕ → Type 0) (from : ℕ) (xs picked : List X) → Picks P from xs picked → StandsOnce xs → StandsOnce picked
picked_once {X} P from [] picked none once = λ i j x p q. absurd (none-some x (subst (λ (l : List X). slice_get l i ≡ Some x) none p))
picked_once {X} P from (y ∷ xs) picked (inl (first, rest, is, more)) once =
    subst (λ (l : List X). StandsOnce l) (sym is) (both_once P (suc from) y xs rest more once (picked_once P (suc from) xs rest more (once_behind y xs once)))
picked_once P from (y ∷ xs) picked (inr (lacks, more)) once = picked_once P (suc from) xs picked more (once_behind y xs once)
