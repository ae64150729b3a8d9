-- The least name of a supertype that isn't there.
use Rattle.std.proofs.Common.{◌≡◌, ℕ, ◌+◌, ◌<◌, ◌≤◌, ◌⊎◌, List, length, map, take, get_or, Contains, Option, Some, None, slice_get, refl, sym, ap, ◌∙◌, subst, inl, inr, ⊎_elim, arith}
use Rattle.std.proofs.lemmas.Bool.{cases_lt}
use Rattle.std.proofs.lemmas.List.{take_all}
use Rattle.std.proofs.lemmas.Option.{same_Some, none-some, slice_get-get_or}
use Rattle.jv_types.specs.declared.shapes.Shape.{Shape}
use Rattle.jv_world.specs.Worlds.{IsAbsent, NamesSuper}
use Rattle.jv_world.specs.Steps.Causes.{lesser_name, IsLeastOf, IsNowhere, TakesAbsent, TakesAbsentParent, IsAbsentBefore}
use Rattle.jv_world.proofs.Leasts.{IsLeastOf-same, IsLeastOf-more}
use Rattle.jv_world.proofs.Linking.{Contains-take_cases, Contains-take_kept, Contains-take_new}
use Rattle.jv_world.proofs.NamesFound.{IsNamed-at, at_IsNamed}

-- the names so far: those of the classes before, and of this one its superclass and the first interfaces
abbrev pub SoFar : List Shape → List (List ℕ) → ℕ → Shape → List (List ℕ) → List ℕ → Type 0
SoFar w names place shape front n = IsAbsentBefore w names place n ⊎ (((shape.parent ≡ Some n) ⊎ Contains front n) × IsNowhere names n)

-- a name that is taken where it is absent
takes : (P Q : List ℕ → Type 0) (names : List (List ℕ)) (name : List ℕ) (best new : Option (List ℕ)) → TakesAbsent names name best new → ((n : List ℕ) → P n → Q n)
    → (IsNowhere names name → Q name) → ((n : List ℕ) → Q n → P n ⊎ ((n ≡ name) × IsNowhere names n)) → IsLeastOf P best → IsLeastOf Q new
takes P Q names name best new taken into own cases least =
    let R : Option (List ℕ) → Type 0 = λ o. IsLeastOf Q o in
    ⊎_elim
    (λ (there : ((i : ℕ) × (slice_get names i ≡ Some name)) × (new ≡ best)).
    subst R (sym there.1)
    (IsLeastOf-same P Q best into
    (λ n h. ⊎_elim (λ old. old) (λ (same : (n ≡ name) × IsNowhere names n). absurd (same.1 there.0.0 (there.0.1 ∙ ap Some (sym same.0)))) (cases n h)) least))
    (λ (absent : IsNowhere names name × (new ≡ lesser_name best name)).
    IsLeastOf-more P Q best new name absent.1 (own absent.0) into
    (λ n h. ⊎_elim (λ old. inl old) (λ (same : (n ≡ name) × IsNowhere names n). inr same.0) (cases n h)) least)
    taken

pub SoFar-start : (w : List Shape) (names : List (List ℕ)) (place : ℕ) (shape : Shape) (items : List (List ℕ)) (best new : Option (List ℕ)) → TakesAbsentParent names shape.parent best new
    → IsLeastOf (IsAbsentBefore w names place) best → IsLeastOf (SoFar w names place shape (take 0 items)) new
SoFar-start w names place shape items best new taken least = by shape.parent refl taken
  where
    nothing : (n : List ℕ) → Contains (take 0 items) n → ⊥
    nothing n h = absurd (omega (arith, h.1))

    by : (parent : Option (List ℕ)) → shape.parent ≡ parent → TakesAbsentParent names parent best new → IsLeastOf (SoFar w names place shape (take 0 items)) new
    by None is same =
        let R : Option (List ℕ) → Type 0 = λ o. IsLeastOf (SoFar w names place shape (take 0 items)) o in
        subst R (sym same)
        (IsLeastOf-same (IsAbsentBefore w names place) (SoFar w names place shape (take 0 items)) best (λ n h. inl h)
        (λ n h. ⊎_elim (λ old. old) (λ more. ⊎_elim (λ parent. absurd (none-some n (sym is ∙ parent))) (λ has. absurd (nothing n has)) more.0) h) least)
    by (Some parent) is kept =
        takes (IsAbsentBefore w names place) (SoFar w names place shape (take 0 items)) names parent best new kept (λ n h. inl h) (λ absent. inr (inl is, absent))
        (λ n h.
        ⊎_elim (λ old. inl old)
        (λ more. ⊎_elim (λ own. inr (same_Some n parent (sym own ∙ is), more.1)) (λ has. absurd (nothing n has)) more.0) h) least

pub SoFar-step : (w : List Shape) (names : List (List ℕ)) (place : ℕ) (shape : Shape) (items : List (List ℕ)) (i : ℕ) (name : List ℕ) (best new : Option (List ℕ)) → i < length items
    → name ≡ get_or items i name → TakesAbsent names name best new → IsLeastOf (SoFar w names place shape (take i items)) best → IsLeastOf (SoFar w names place shape (take (i + 1) items)) new
SoFar-step w names place shape items i name best new below is taken least =
    takes (SoFar w names place shape (take i items)) (SoFar w names place shape (take (i + 1) items)) names name best new taken
    (λ n h.
    ⊎_elim (λ old. inl old) (λ more. inr (⊎_elim (λ parent. inl parent) (λ has. inr (Contains-take_kept items i n name below has)) more.0, more.1)) h)
    (λ absent. inr (inr (Contains-take_new items i name below is), absent))
    (λ n h.
    ⊎_elim (λ old. inl (inl old))
    (λ more.
    ⊎_elim (λ parent. inl (inr (inl parent, more.1)))
    (λ has. ⊎_elim (λ before. inl (inr (inr before, more.1))) (λ same. inr (same, more.1)) (Contains-take_cases items i n name below is has)) more.0) h)
    least

pub SoFar-end : (w : List Shape) (names : List (List ℕ)) (place : ℕ) (shape : Shape) (items : List (List ℕ)) (i : ℕ) (best : Option (List ℕ)) → place < length w → shape ≡ get_or w place shape
    → items ≡ shape.interfaces → length items ≤ i → IsLeastOf (SoFar w names place shape (take i items)) best → IsLeastOf (IsAbsentBefore w names (place + 1)) best
SoFar-end w names place shape items i best below is interfaces past least =
    IsLeastOf-same (SoFar w names place shape (take i items)) (IsAbsentBefore w names (place + 1)) best
    (λ n h.
    ⊎_elim
    (λ (old : IsAbsentBefore w names place n). (old.0, old.1, omega (arith, old.2), old.3, old.4, old.5))
    (λ more. (place, shape, omega arith, here, ⊎_elim (λ parent. inl parent) (λ has. inr (subst (P n) front has)) more.0, more.1)) h)
    (λ n (h : IsAbsentBefore w names (place + 1) n).
    ⊎_elim
    (λ (early : h.0 < place). inl (h.0, h.1, early, h.3, h.4, h.5))
    (λ (late : place ≤ h.0).
    let same_place : h.0 ≡ place = omega (arith, h.2, late) in
    let same_shape : h.1 ≡ shape = same_Some h.1 shape (sym h.3 ∙ ap (slice_get w) same_place ∙ here) in
    let Q : Shape → Type 0 = λ s. NamesSuper s n in
    inr (⊎_elim (λ parent. inl parent) (λ has. inr (subst (P n) (sym front) has)) (subst Q same_shape h.4), h.5))
    (cases_lt h.0 place))
    least
  where
    P : List ℕ → List (List ℕ) → Type 0
    P m l = Contains l m

    front : take i items ≡ shape.interfaces
    front = take_all i items past ∙ interfaces

    here : slice_get w place ≡ Some shape
    here = slice_get-get_or w place shape below ∙ ap Some (sym is)

pub IsLeastOf-absent_none : (w : List Shape) (names : List (List ℕ)) → IsLeastOf (IsAbsentBefore w names 0) None
IsLeastOf-absent_none w names n h = absurd (omega (arith, h.2))

-- the supertypes of all classes
pub IsLeastOf-absent : (w : List Shape) (names : List (List ℕ)) (best : Option (List ℕ)) → names ≡ map (λ s. s.name) w → IsLeastOf (IsAbsentBefore w names (length w)) best → IsLeastOf (IsAbsent w) best
IsLeastOf-absent w names best is least =
    IsLeastOf-same (IsAbsentBefore w names (length w)) (IsAbsent w) best
    (λ n (h : IsAbsentBefore w names (length w) n). record {
      shape = h.1;
      here = (h.0, h.2, get_there h.0 h.1 h.2 h.3);
      names = h.4;
      nowhere = λ c named. h.5 c (ap (λ (l : List (List ℕ)). slice_get l c) is ∙ at_IsNamed w c n named);
    })
    (λ n h. (
      h.here.0,
      h.shape,
      h.here.1,
      slice_get-get_or w h.here.0 h.shape h.here.1 ∙ ap Some h.here.2,
      h.names,
      λ i at. h.nowhere i (IsNamed-at w i n (ap (λ (l : List (List ℕ)). slice_get l i) (sym is) ∙ at)),
    ))
    least
  where
    get_there : (c : ℕ) (shape : Shape) → c < length w → slice_get w c ≡ Some shape → get_or w c shape ≡ shape
    get_there c shape below at = same_Some (get_or w c shape) shape (sym (slice_get-get_or w c shape below) ∙ at)
