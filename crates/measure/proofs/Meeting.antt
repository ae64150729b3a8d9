-- What a number on a side forces.
use Rattle.std.proofs.Common.{◌≡◌, ℕ, zero, suc, ◌+◌, ◌-◌, ◌<◌, ◌⊎◌, List, [], ◌∷◌, ◌++◌, refl, sym, ap, ◌∙◌, subst, inl, inr, append_assoc, arith}
use Rattle.std.specs.List.{Contains}
use Rattle.std.proofs.lemmas.Bool.{cases_eq}
use Rattle.jv_fix.specs.Facts.{IsForcedBy, AppendsForced}
use Rattle.measure.specs.Sides.{after, meets}

-- the same number on the other side
abbrev partner : ℕ × ℕ → ℕ × ℕ
partner fact = (1 - fact.0, fact.1)

-- what it forces alone and with its partner
met : (size : ℕ) (fact : ℕ × ℕ) (found : List (ℕ × ℕ)) → fact.0 < 2 → Contains found (partner fact) → IsForcedBy (meets size) fact found (2, fact.1)
met size (side, number) found low there = elim (cases_zero side low) [
  | inl first ↦ inr (partner (side, number), there, inl (first, omega (arith, first), refl, refl))
  | inr second ↦ inr (partner (side, number), there, inr (omega (arith, second), second, refl, refl))
]
  where
    cases_zero : (n : ℕ) → n < 2 → (n ≡ 0) ⊎ (n ≡ 1)
    cases_zero n l = elim (cases_eq n 0) [ inl e ↦ inl e | inr e ↦ inr (omega (arith, l, e)) ]

-- and nothing else
only : (size : ℕ) (fact : ℕ × ℕ) (found : List (ℕ × ℕ)) (forced : ℕ × ℕ) → IsForcedBy (meets size) fact found forced
    → (forced ≡ (fact.0, after size fact.1)) ⊎ (Contains found (partner fact) × (forced ≡ (2, fact.1)))
only size fact found forced (inl (low, is)) = inl is
only size fact found forced (inr (other, there, inl (first, second, same, is))) =
    let side : other.0 ≡ 1 - fact.0 = omega (arith, first, second) in
    let is_partner : other ≡ partner fact = λ k. (side k, sym same k) in
    inr (subst (Contains found) is_partner there, is)
only size fact found forced (inr (other, there, inr (first, second, same, is))) =
    let side : other.0 ≡ 1 - fact.0 = omega (arith, first, second) in
    let is_partner : other ≡ partner fact = λ k. (side k, same k) in
    inr (subst (Contains found) is_partner there, is ∙ ap (λ (n : ℕ). (2, n)) same)

-- a number whose partner was found forces the next one, and that both meet
pub with_partner : (size : ℕ) (fact : ℕ × ℕ) (found old : List (ℕ × ℕ)) → fact.0 < 2 → Contains found (partner fact)
    → AppendsForced (meets size) fact found old ((old ++ (fact.0, after size fact.1) ∷ []) ++ (2, fact.1) ∷ [])
with_partner size fact found old low there = record {
  added = (fact.0, after size fact.1) ∷ (2, fact.1) ∷ [];
  appended = append_assoc old ((fact.0, after size fact.1) ∷ []) ((2, fact.1) ∷ []);
  exact = λ forced. (into forced, λ h. back forced (only size fact found forced h));
}
  where
    into : (forced : ℕ × ℕ) → Contains ((fact.0, after size fact.1) ∷ (2, fact.1) ∷ []) forced → IsForcedBy (meets size) fact found forced
    into forced (zero, lt, e) = inl (low, sym e)
    into forced (suc zero, lt, e) = subst (IsForcedBy (meets size) fact found) e (met size fact found low there)
    into forced (suc (suc k), lt, e) = absurd (omega (arith, lt))

    back : (forced : ℕ × ℕ) → (forced ≡ (fact.0, after size fact.1)) ⊎ (Contains found (partner fact) × (forced ≡ (2, fact.1)))
        → Contains ((fact.0, after size fact.1) ∷ (2, fact.1) ∷ []) forced
    back forced (inl e) = (0, omega arith, sym e)
    back forced (inr h) = (1, omega arith, sym h.1)

-- one whose partner wasn't found forces the next one alone
pub alone : (size : ℕ) (fact : ℕ × ℕ) (found old : List (ℕ × ℕ)) → fact.0 < 2 → (Contains found (partner fact) → ⊥)
    → AppendsForced (meets size) fact found old (old ++ (fact.0, after size fact.1) ∷ [])
alone size fact found old low absent = record {
  added = (fact.0, after size fact.1) ∷ [];
  appended = refl;
  exact = λ forced. (into forced, λ h. back forced (only size fact found forced h));
}
  where
    into : (forced : ℕ × ℕ) → Contains ((fact.0, after size fact.1) ∷ []) forced → IsForcedBy (meets size) fact found forced
    into forced (zero, lt, e) = inl (low, sym e)
    into forced (suc k, lt, e) = absurd (omega (arith, lt))

    back : (forced : ℕ × ℕ) → (forced ≡ (fact.0, after size fact.1)) ⊎ (Contains found (partner fact) × (forced ≡ (2, fact.1)))
        → Contains ((fact.0, after size fact.1) ∷ []) forced
    back forced (inl e) = (0, omega arith, sym e)
    back forced (inr h) = absurd (absent h.0)
