-- What is put at the end of a list, one part after another.
use Rattle.std.proofs.Common.{◌≡◌, ℕ, ◌+◌, ◌<◌, ◌≤◌, ◌↔◌, ◌⊎◌, inl, inr, List, [], ◌∷◌, ◌++◌, Some, length, take, get_or, slice_get, Contains, refl, sym, ap, ◌∙◌, subst, arith, append-nil, append_assoc, ⊎_elim}
use Rattle.std.proofs.lemmas.Bool.{cases_eq}
use Rattle.std.proofs.lemmas.List.{take_all, take_more}
use Rattle.std.proofs.lemmas.List.Elements.{Contains-append_left, Contains-append_right, Contains-append_cases, Contains-push, Contains-push_cases}
use Rattle.std.proofs.lemmas.Option.{slice_get_within, same_Some}
use Rattle.av_named.specs.Appending.{Appends, OfEach, OfEachPlace, OfPlacesBelow}

pub none_there : {X : Type 0} (x : X) → Contains [] x → ⊥
none_there x h = absurd (omega (arith, h.1))

pub alone : {X : Type 0} (x y : X) → Contains (x ∷ []) y → x ≡ y
alone x y h = ⊎_elim (λ none. absurd (none_there y none)) (λ is. is) (Contains-push_cases [] x y h)

pub itself : {X : Type 0} (x y : X) → x ≡ y → Contains (x ∷ []) y
itself {X} x y e = subst (λ (z : X). Contains (x ∷ []) z) e (Contains-push [] x)

module _ {X : Type 0} where
  pub appends_none : (P : X → Type 0) (old : List X) → ((x : X) → P x → ⊥) → Appends P old old
  appends_none P old none = record {
    added = [];
    appended = sym (append-nil old);
    exact = λ x. (λ h. absurd (none_there x h), λ p. absurd (none x p));
  }

  pub appends_one : (x : X) (old new : List X) → new ≡ old ++ x ∷ [] → Appends (λ y. x ≡ y) old new
  appends_one x old new e = record {
    added = x ∷ [];
    appended = e;
    exact = λ y. (λ h. alone x y h, λ is. itself x y is);
  }

  pub appends_same : (P Q : X → Type 0) (old new : List X) → ((x : X) → P x → Q x) → ((x : X) → Q x → P x) → Appends P old new → Appends Q old new
  appends_same P Q old new into back a = record {
    added = a.added;
    appended = a.appended;
    exact = λ x. (λ h. into x ((a.exact x).0 h), λ q. (a.exact x).1 (back x q));
  }

  pub appends_both : (P Q : X → Type 0) (a b c : List X) → Appends P a b → Appends Q b c → Appends (λ x. P x ⊎ Q x) a c
  appends_both P Q a b c p q = record {
    added = p.added ++ q.added;
    appended = q.appended ∙ ap (λ (l : List X). l ++ q.added) p.appended ∙ append_assoc a p.added q.added;
    exact = λ x. (
      λ h. ⊎_elim (λ left. inl ((p.exact x).0 left)) (λ right. inr ((q.exact x).0 right)) (Contains-append_cases p.added q.added x h),
      ⊎_elim (λ left. Contains-append_left p.added q.added x ((p.exact x).1 left)) (λ right. Contains-append_right p.added q.added x ((q.exact x).1 right)),
    );
  }

  -- what is put at the end of the empty list is the list
  pub appends_all : (P : X → Type 0) (new : List X) → Appends P [] new → (x : X) → Contains new x ↔ P x
  appends_all P new a x =
      let is : new ≡ a.added = a.appended in
      (λ h. (a.exact x).0 (subst (λ (l : List X). Contains l x) is h), λ p. subst (λ (l : List X). Contains l x) (sym is) ((a.exact x).1 p))

-- ---- one element after another

module _ {X Y : Type 0} (P : X → Y → Type 0) where
  pub each_none : (xs : List X) (old : List Y) → Appends (OfEach P (take 0 xs)) old old
  each_none xs old = appends_none (OfEach P (take 0 xs)) old (λ y h. none_there h.0 h.1)

  pub each_more : (xs : List X) (k : ℕ) (x : X) (a b c : List Y) → k < length xs → x ≡ get_or xs k x
      → Appends (OfEach P (take k xs)) a b → Appends (P x) b c → Appends (OfEach P (take (k + 1) xs)) a c
  each_more xs k x a b c within is before now =
      let all : take (k + 1) xs ≡ take k xs ++ x ∷ [] = take_more xs k x within ∙ ap (λ (z : X). take k xs ++ z ∷ []) (sym is) in
      appends_same (λ y. OfEach P (take k xs) y ⊎ P x y) (OfEach P (take (k + 1) xs)) a c
      (λ y. ⊎_elim (λ h. (h.0, subst (λ (l : List X). Contains l h.0) (sym all) (Contains-append_left (take k xs) (x ∷ []) h.0 h.1), h.2)) (λ p. (x, subst (λ (l : List X). Contains l x) (sym all) (Contains-push (take k xs) x), p)))
      (λ y h. ⊎_elim (λ old. inl (h.0, old, h.2)) (λ same. inr (subst (λ (z : X). P z y) (sym same) h.2)) (Contains-push_cases (take k xs) x h.0 (subst (λ (l : List X). Contains l h.0) all h.1)))
      (appends_both (OfEach P (take k xs)) (P x) a b c before now)

  pub each_all : (xs : List X) (n : ℕ) (a b : List Y) → length xs ≤ n → Appends (OfEach P (take n xs)) a b → Appends (OfEach P xs) a b
  each_all xs n a b past h = subst (λ (l : List X). Appends (OfEach P l) a b) (take_all n xs past) h

-- ---- all elements of a list

module _ {X : Type 0} where
  pub all_none : (xs old : List X) → Appends (Contains (take 0 xs)) old old
  all_none xs old = appends_none (Contains (take 0 xs)) old none_there

  pub all_more : (xs : List X) (k : ℕ) (x : X) (a b c : List X) → k < length xs → x ≡ get_or xs k x
      → Appends (Contains (take k xs)) a b → Appends (λ y. x ≡ y) b c → Appends (Contains (take (k + 1) xs)) a c
  all_more xs k x a b c within is before now =
      let all : take (k + 1) xs ≡ take k xs ++ x ∷ [] = take_more xs k x within ∙ ap (λ (z : X). take k xs ++ z ∷ []) (sym is) in
      appends_same (λ y. Contains (take k xs) y ⊎ (x ≡ y)) (Contains (take (k + 1) xs)) a c
      (λ y. ⊎_elim (λ h. subst (λ (l : List X). Contains l y) (sym all) (Contains-append_left (take k xs) (x ∷ []) y h)) (λ e. subst (λ (l : List X). Contains l y) (sym all) (subst (λ (z : X). Contains (take k xs ++ x ∷ []) z) e (Contains-push (take k xs) x))))
      (λ y h. Contains-push_cases (take k xs) x y (subst (λ (l : List X). Contains l y) all h))
      (appends_both (Contains (take k xs)) (λ y. x ≡ y) a b c before now)

  pub all_all : (xs : List X) (n : ℕ) (a b : List X) → length xs ≤ n → Appends (Contains (take n xs)) a b → Appends (Contains xs) a b
  all_all xs n a b past h = subst (λ (l : List X). Appends (Contains l) a b) (take_all n xs past) h

-- ---- one place after another

module _ {X Y : Type 0} (P : X → ℕ → Y → Type 0) (xs : List X) where
  pub places_none : (old : List Y) → Appends (OfPlacesBelow 0 P xs) old old
  places_none old = appends_none (OfPlacesBelow 0 P xs) old (λ y h. absurd (omega (arith, h.2)))

  pub places_more : (n : ℕ) (x : X) (a b c : List Y) → slice_get xs n ≡ Some x → Appends (OfPlacesBelow n P xs) a b → Appends (P x n) b c → Appends (OfPlacesBelow (n + 1) P xs) a c
  places_more n x a b c at before now =
      appends_same (λ y. OfPlacesBelow n P xs y ⊎ P x n y) (OfPlacesBelow (n + 1) P xs) a c
      (λ y. ⊎_elim (λ h. (h.0, h.1, omega (arith, h.2), h.3, h.4)) (λ p. (n, x, omega arith, at, p)))
      (λ y h. elim (cases_eq h.0 n) [
        | inl same ↦ inr (
            let is : h.1 ≡ x = same_Some h.1 x (sym h.3 ∙ ap (slice_get xs) same ∙ at) in
            subst (λ (i : ℕ). P x i y) same (subst (λ (z : X). P z h.0 y) is h.4)
            )
        | inr apart ↦ inl (h.0, h.1, omega (arith, h.2, apart), h.3, h.4)
      ])
      (appends_both (OfPlacesBelow n P xs) (P x n) a b c before now)

  pub places_all : (n : ℕ) (a b : List Y) → length xs ≤ n → Appends (OfPlacesBelow n P xs) a b → Appends (OfEachPlace P xs) a b
  places_all n a b past h =
      appends_same (OfPlacesBelow n P xs) (OfEachPlace P xs) a b (λ y p. (p.0, p.1, p.3, p.4))
      (λ y p. (let within : p.0 < length xs = slice_get_within xs p.0 p.1 p.2 in (p.0, p.1, omega (arith, within, past), p.2, p.3))) h
