-- Lists of names, none of which stands twice.
use Rattle.std.proofs.Common.{◌≡◌, ℕ, suc, ◌<◌, ◌≤◌, inl, inr, List, [], ◌∷◌, ◌++◌, length, take, drop, get_or, Contains, ap, sym, ◌∙◌, subst, arith, take-append-drop, drop-cons, length-append}
use Rattle.std.proofs.lemmas.List.Elements.{Contains-append_left, Contains-append_right, Contains-append_cases}
use Rattle.av_collected.proofs.Lists.{in_head, in_tail, of_cons, in_none}
use Rattle.av_asked.specs.Asking.{AreDistinct}

-- the one element of a list
pub only_one : {X : Type 0} (x y : X) → Contains (x ∷ []) y → x ≡ y
only_one x y h = elim (of_cons x [] y h) [ inl is ↦ is | inr none ↦ absurd (in_none y none) ]

pub distinct_last : (names : List (List ℕ)) (last : List ℕ) → AreDistinct names → (Contains names last → ⊥) → AreDistinct (names ++ last ∷ [])
distinct_last [] last distinct fresh = (in_none last, tt)
distinct_last (name ∷ names) last distinct fresh = (
  λ h. elim (Contains-append_cases names (last ∷ []) name h) [
    | inl there ↦ distinct.0 there
    | inr here ↦ fresh (subst (λ (other : List ℕ). Contains (name ∷ names) other) (sym (only_one last name here)) (in_head name names))
  ],
  distinct_last names last distinct.1 (λ h. fresh (in_tail name names last h)),
)

-- a list in two parts round one of its elements
round : {X : Type 0} (xs : List X) (k : ℕ) (x : X) → k < length xs → get_or xs k x ≡ x → xs ≡ take k xs ++ x ∷ drop (suc k) xs
round {X} xs k x within is =
    sym (take-append-drop k xs) ∙ ap (λ (end : List X). take k xs ++ end) (drop-cons xs k x within ∙ ap (λ (y : X). y ∷ drop (suc k) xs) is)

-- the list without that element has each other
others : {X : Type 0} (before after : List X) (x y : X) → (x ≡ y → ⊥) → Contains (before ++ x ∷ after) y → Contains (before ++ after) y
others before after x y apart h = elim (Contains-append_cases before (x ∷ after) y h) [
  | inl there ↦ Contains-append_left before after y there
  | inr there ↦ elim (of_cons x after y there) [
    | inl same ↦ absurd (apart same)
    | inr behind ↦ Contains-append_right before after y behind
  ]
]

-- names that are all of a list are no more than its elements
pub no_more : (names bound : List (List ℕ)) → AreDistinct names → ((name : List ℕ) → Contains names name → Contains bound name) → length names ≤ length bound
no_more [] bound distinct inside = omega arith
no_more (name ∷ names) bound distinct inside =
    let h = inside name (in_head name names) in
    let k = h.0 in
    let parts = round bound k name h.1 h.2 in
    let fewer = no_more names (take k bound ++ drop (suc k) bound) distinct.1
    (λ other there. others (take k bound) (drop (suc k) bound) name other
    (λ same. distinct.0 (subst (λ (n : List ℕ). Contains names n) (sym same) there))
    (subst (λ (l : List (List ℕ)). Contains l other) parts (inside other (in_tail name names other there)))) in
    omega (arith, fewer, ap (length {A = List ℕ}) parts, length-append (take k bound) (drop (suc k) bound), length-append (take k bound) (name ∷ drop (suc k) bound))
