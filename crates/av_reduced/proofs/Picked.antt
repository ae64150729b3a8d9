-- The elements of a list at rising places, one place after another.
use Rattle.std.proofs.Common.{◌≡◌, ℕ, zero, suc, ◌+◌, ◌<◌, ◌≤◌, ◌⊎◌, inl, inr, List, [], ◌∷◌, ◌++◌, length, take, get_or, slice_get, Contains, refl, sym, ap, ◌∙◌, subst, arith, append-nil, zero-add, Option, None, Some}
use Rattle.std.proofs.lemmas.List.{get_or-take, length-take-le, take_all, take_more}
use Rattle.std.proofs.lemmas.List.Elements.{Contains-append_left, Contains-push, Contains-push_cases}
use Rattle.std.proofs.lemmas.Option.{slice_get-get_or}
use Rattle.std.specs.List.Sorted.{IsStrictlyIncreasing}
use Rattle.av_collected.specs.Answers.{Picks}
use Rattle.av_reduced.specs.Reduced.{listed}

none_there : {X : Type 0} (x : X) → Contains [] x → ⊥
none_there x h = absurd (omega (arith, h.1))

-- where there is no place from the first on, nothing is picked
pub picks_nothing : {X : Type 0} (P : ℕ → Type 0) (start : ℕ) (xs : List X) → ((place : ℕ) → start ≤ place → P place → ⊥) → Picks P start xs []
picks_nothing P start [] none = refl
picks_nothing P start (x ∷ xs) none = inr (none start (omega arith), picks_nothing P (suc start) xs (λ place later. none place (omega (arith, later))))

nothing_picked : {X : Type 0} (P : ℕ → Type 0) (start : ℕ) (xs picked : List X) → ((place : ℕ) → start ≤ place → P place → ⊥) → Picks P start xs picked → picked ≡ []
nothing_picked P start [] picked none p = p
nothing_picked P start (x ∷ xs) picked none (inl p) = absurd (none start (omega arith) p.0)
nothing_picked P start (x ∷ xs) picked none (inr p) = nothing_picked P (suc start) xs picked (λ place later. none place (omega (arith, later))) p.1

pub picks_same : {X : Type 0} (P Q : ℕ → Type 0) (start : ℕ) (xs picked : List X) → ((place : ℕ) → P place → Q place) → ((place : ℕ) → Q place → P place) → Picks P start xs picked → Picks Q start xs picked
picks_same P Q start [] picked into back p = p
picks_same P Q start (x ∷ xs) picked into back (inl p) = inl (into start p.0, p.1, p.2, picks_same P Q (suc start) xs p.1 into back p.3)
picks_same P Q start (x ∷ xs) picked into back (inr p) = inr (λ q. p.0 (back start q), picks_same P Q (suc start) xs picked into back p.1)

-- one place more, which is above the others
module _ (P Q : ℕ → Type 0) (last : ℕ) (below : (place : ℕ) → P place → place < last) (split : (place : ℕ) → Q place → P place ⊎ (place ≡ last))
    (earlier : (place : ℕ) → P place → Q place) (here : Q last) where
  no_later : (start : ℕ) → last < start → (place : ℕ) → start ≤ place → Q place → ⊥
  no_later start past place later q = elim (split place q) [
    | inl p ↦ let b = below place p in absurd (omega (arith, b, past, later))
    | inr is ↦ absurd (omega (arith, is, past, later))
  ]

  module _ {X : Type 0} where
    at_last : (start : ℕ) (x : X) (xs picked : List X) → start ≡ last → Picks P start (x ∷ xs) picked → Picks Q start (x ∷ xs) (picked ++ x ∷ [])
    at_last start x xs picked is (inl p) = let b = below start p.0 in absurd (omega (arith, b, is))
    at_last start x xs picked is (inr p) =
        let none : picked ≡ [] = nothing_picked P (suc start) xs picked (λ place later q. let b = below place q in absurd (omega (arith, b, is, later))) p.1 in
        inl (
          subst Q (sym is) here,
          [],
          ap (λ (l : List X). l ++ x ∷ []) none,
          picks_nothing Q (suc start) xs (no_later (suc start) (omega (arith, is))),
        )

    pub picks_more : (d start : ℕ) (xs picked : List X) → start + d ≡ last → Picks P start xs picked → Picks Q start xs (picked ++ listed (slice_get xs d))
    picks_more d start [] picked is p = append-nil picked ∙ p
    picks_more zero start (x ∷ xs) picked is p = at_last start x xs picked (omega (arith, is)) p
    picks_more (suc d) start (x ∷ xs) picked is (inl p) =
        inl (
          earlier start p.0,
          p.1 ++ listed (slice_get xs d),
          ap (λ (l : List X). l ++ listed (slice_get xs d)) p.2,
          picks_more d (suc start) xs p.1 (omega (arith, is)) p.3,
        )
    picks_more (suc d) start (x ∷ xs) picked is (inr p) =
        inr (
          λ q. elim (split start q) [ inl there ↦ p.0 there | inr same ↦ absurd (omega (arith, is, same)) ],
          picks_more d (suc start) xs picked (omega (arith, is)) p.1,
        )

-- ---- the loop

any_default : (xs : List ℕ) (i d e : ℕ) → i < length xs → get_or xs i d ≡ get_or xs i e
any_default [] i d e within = absurd (omega (arith, within))
any_default (x ∷ xs) zero d e within = refl
any_default (x ∷ xs) (suc i) d e within = any_default xs i d e (omega (arith, within))

split_below : (j k : ℕ) → j < suc k → (j < k) ⊎ (j ≡ k)
split_below j k lower = grind arith

rises : (places : List ℕ) → IsStrictlyIncreasing places → (k j : ℕ) → k < length places → j < k → get_or places j 0 < get_or places k 0
rises places rising zero j within lower = absurd (omega (arith, lower))
rises places rising (suc k) j within lower =
    let one : k + 1 ≡ suc k = omega arith in
    let next : get_or places k 0 < get_or places (suc k) 0 = subst (λ (n : ℕ). get_or places k 0 < get_or places n 0) one (rising k (omega (arith, within))) in
    elim (split_below j k lower) [
      | inl less ↦ let l = rises places rising k j (omega (arith, within)) less in omega (arith, l, next)
      | inr same ↦ subst (λ (n : ℕ). get_or places n 0 < get_or places (suc k) 0) (sym same) next
    ]

module _ {X : Type 0} (all : List X) (places : List ℕ) (rising : IsStrictlyIncreasing places) where
  pub begins : (picked : List X) → picked ≡ [] → Picks (Contains (take 0 places)) 0 all picked
  begins picked none =
      subst (λ (l : List X). Picks (Contains (take 0 places)) 0 all l) (sym none) (picks_nothing (Contains (take 0 places)) 0 all (λ place later h. none_there place h))

  pub goes_on : (k place : ℕ) (picked new : List X) → k < length places → place ≡ get_or places k 0 → Picks (Contains (take k places)) 0 all picked
      → new ≡ picked ++ listed (slice_get all place) → Picks (Contains (take (k + 1) places)) 0 all new
  goes_on k place picked new within is before grown =
      subst (λ (l : List X). Picks (Contains (take (k + 1) places)) 0 all l) (sym grown)
      (picks_more (Contains (take k places)) (Contains (take (k + 1) places)) place below split earlier here place 0 all picked (zero-add place) before)
    where
      parts : take (k + 1) places ≡ take k places ++ place ∷ []
      parts = take_more places k 0 within ∙ ap (λ (z : ℕ). take k places ++ z ∷ []) (sym is)

      below : (other : ℕ) → Contains (take k places) other → other < place
      below other h =
          let i = h.0 in
          let lower : i < k = let l = length-take-le k places (omega (arith, within)) in omega (arith, l, h.1) in
          let same : get_or places i 0 ≡ other = any_default places i 0 other (omega (arith, lower, within)) ∙ sym (get_or-take k places i other lower) ∙ h.2 in
          let r = rises places rising k i within lower in omega (arith, r, same, is)

      split : (other : ℕ) → Contains (take (k + 1) places) other → Contains (take k places) other ⊎ (other ≡ place)
      split other h = elim (Contains-push_cases (take k places) place other (subst (λ (l : List ℕ). Contains l other) parts h)) [ inl there ↦ inl there | inr same ↦ inr (sym same) ]

      earlier : (other : ℕ) → Contains (take k places) other → Contains (take (k + 1) places) other
      earlier other h = subst (λ (l : List ℕ). Contains l other) (sym parts) (Contains-append_left (take k places) (place ∷ []) other h)

      here : Contains (take (k + 1) places) place
      here = subst (λ (l : List ℕ). Contains l place) (sym parts) (Contains-push (take k places) place)

  pub ends : (n : ℕ) (picked : List X) → length places ≤ n → Picks (Contains (take n places)) 0 all picked → Picks (Contains places) 0 all picked
  ends n picked past p = subst (λ (l : List ℕ). Picks (Contains l) 0 all picked) (take_all n places past) p

-- ---- one place

push_none : {X : Type 0} (picked : List X) (o : Option X) → o ≡ None → picked ≡ picked ++ listed o
push_none {X} picked o none = sym (ap (λ (x : Option X). picked ++ listed x) none ∙ append-nil picked)

push_some : {X : Type 0} (picked new : List X) (o : Option X) (x y : X) → o ≡ Some x → y ≡ x → new ≡ picked ++ y ∷ [] → new ≡ picked ++ listed o
push_some {X} picked new o x y is same grown =
    grown ∙ ap (λ (z : X). picked ++ z ∷ []) same ∙ sym (ap (λ (x : Option X). picked ++ listed x) is)

none_past : {X : Type 0} (xs : List X) (i : ℕ) → length xs ≤ i → slice_get xs i ≡ None
none_past [] i past = refl
none_past (x ∷ xs) zero past = absurd (omega (arith, past))
none_past (x ∷ xs) (suc i) past = none_past xs i (omega (arith, past))

pub push_past : {X : Type 0} (picked all : List X) (place : ℕ) → length all ≤ place → picked ≡ picked ++ listed (slice_get all place)
push_past picked all place past = push_none picked (slice_get all place) (none_past all place past)

pub push_there : {X : Type 0} (picked new all : List X) (place : ℕ) (x y : X) → place < length all → x ≡ get_or all place x → y ≡ x → new ≡ picked ++ y ∷ [] → new ≡ picked ++ listed (slice_get all place)
push_there {X} picked new all place x y within is same grown =
    push_some picked new (slice_get all place) x y (slice_get-get_or all place x within ∙ ap (λ (z : X). Some z) (sym is)) same grown
