-- Tables by the numbers of classes.
use Rattle.std.proofs.Common.{◌≡◌, ℕ, ◌+◌, ◌<◌, ◌≤◌, ◌⊎◌, zero, suc, false, List, [], ◌∷◌, ◌++◌, length, get_or, Option, None, Some, IfSome, IfNone, slice_get, refl, sym, ap, ◌∙◌, subst, inl, inr, ⊎_elim, arith}
use Rattle.std.proofs.lemmas.List.{length_push}
use Rattle.std.proofs.lemmas.Option.{none-some, same_Some, slice_get_cases, slice_get_within}
use Rattle.jv_types.specs.declared.ids.ClassId.{ClassId}
use Rattle.jv_types.specs.declared.shapes.Shape.{Shape}
use Rattle.jv_world.specs.MemberPlaces.{NoneBelow}
use Rattle.jv_world.specs.Worlds.{AreNumbered, IsFinal, IsInterface, IsNamed}
use Rattle.av_conditions.specs.StandIn.{any_name}
use Rattle.av_rules.specs.StandInClasses.{IsAnyClassOf}
use Rattle.av_rules.specs.Steps.Tables.{AreOfEach, SaysAny}
use Rattle.av_rules.proofs.Types.{any_one}

-- an element of a list with one more
slice_get-push : {A : Type 0} (xs : List A) (y : A) (i : ℕ) (x : A) → slice_get (xs ++ y ∷ []) i ≡ Some x → (slice_get xs i ≡ Some x) ⊎ ((i ≡ length xs) × (x ≡ y))
slice_get-push [] y zero x at = inr (refl, sym (same_Some y x at))
slice_get-push [] y (suc i) x at = absurd (none-some x at)
slice_get-push (z ∷ zs) y zero x at = inl at
slice_get-push (z ∷ zs) y (suc i) x at =
    ⊎_elim (λ before. inl before) (λ (last : (i ≡ length zs) × (x ≡ y)). inr (omega (arith, last.0), last.1)) (slice_get-push zs y i x at)

pub each_more : {X : Type 0} (P : ℕ → X → Type 0) (n : ℕ) (xs new : List X) (x : X) → AreOfEach P n xs → P n x → new ≡ xs ++ x ∷ [] → AreOfEach P (n + 1) new
each_more {X} P n xs new x are says grown =
    let Q : List X → Type 0 = λ l. AreOfEach P (n + 1) l in
    subst Q (sym grown)
    (record {
      count = omega (arith, length_push xs x, are.count);
      exact = λ k y at.
          ⊎_elim
          (λ before. are.exact k y before)
          (λ (last : (k ≡ length xs) × (y ≡ x)).
          let here : k ≡ n = last.0 ∙ are.count in
          let R : ℕ → Type 0 = λ j. P j y in
          let S : X → Type 0 = λ z. P n z in
          subst R (sym here) (subst S (sym last.1) says))
          (slice_get-push xs x k y at);
    })

pub each_all : {X : Type 0} (P : ℕ → X → Type 0) (n m : ℕ) (xs : List X) → n ≡ m → AreOfEach P n xs → AreOfEach P m xs
each_all {X} P n m xs is are = record { count = are.count ∙ is; exact = are.exact }

-- the count of a list that is another one
pub past_all : {X : Type 0} (xs ys : List X) (n : ℕ) → xs ≡ ys → length xs ≤ n → length ys ≤ n
past_all {X} xs ys n is past = let size = ap length is in omega (arith, size, past)

pub at_end : {X : Type 0} (xs ys : List X) (n : ℕ) → xs ≡ ys → length xs ≤ n → n ≤ length xs → n ≡ length ys
at_end {X} xs ys n is past within = let size = ap length is in omega (arith, size, past, within)

-- ---- classes of any object

-- a class that may not be extended has none
pub closed_has_none : (w : List Shape) (c : ℕ) (shape : Shape) → slice_get w c ≡ Some shape
    → ((shape.application ≡ false) × ¬ IsFinal shape × ¬ IsInterface shape → ⊥) → SaysAny w c None
closed_has_none w c shape at closed any x =
    let same : x.0 ≡ shape = same_Some x.0 shape (sym x.1.place ∙ at) in
    let P : Shape → Type 0 = λ s. (s.application ≡ false) × ¬ IsFinal s × ¬ IsInterface s in
    closed (subst P same (x.1.of_library, x.1.extendable, x.1.class_proper))

-- another has the class of that name, if there is one
pub open_has : (w : List Shape) (c : ℕ) (shape : Shape) (name : List ℕ) (o : Option ClassId) → slice_get w c ≡ Some shape
    → (shape.application ≡ false) × ¬ IsFinal shape × ¬ IsInterface shape → name ≡ any_name shape.name
    → IfSome o (λ any. IsNamed w any.number name) → IfNone o ((any : ℕ) → IsNamed w any name → ⊥) → SaysAny w c o
open_has w c shape name None at is called found none = λ any x.
    let same : x.0 ≡ shape = same_Some x.0 shape (sym x.1.place ∙ at) in
    none any (subst (IsNamed w any) (ap (λ (s : Shape). any_name s.name) same ∙ sym called) x.2)
open_has w c shape name (Some any) at is called found none =
    (shape, record { place = at; of_library = is.0; extendable = is.1; class_proper = is.2 }, subst (IsNamed w any.number) called found)

-- what the table says of a class
pub table_says : (w : List Shape) (any : List (Option ClassId)) (c : ℕ) (o : Option ClassId) → AreOfEach (SaysAny w) (length w) any → slice_get any c ≡ Some o → SaysAny w c o
table_says w any c o are at = are.exact c o at

-- a class past the end has none
pub past_has_none : (w : List Shape) (any : List (Option ClassId)) (c : ℕ) → AreOfEach (SaysAny w) (length w) any → length any ≤ c → SaysAny w c None
past_has_none w any c are past other x =
    let within : c < length w = slice_get_within w c x.0 x.1.place in
    absurd (omega (arith, within, past, are.count))

-- a class that is nowhere in the table is that of any object of no class
pub stands_for_none : (w : List Shape) (any : List (Option ClassId)) (own : ClassId) (n : ℕ) → AreNumbered w → AreOfEach (SaysAny w) (length w) any → length w ≤ n
    → NoneBelow (λ (o : Option ClassId). o ≡ Some own) any n → (c : ℕ) → IsAnyClassOf w c own.number → ⊥
stands_for_none w any own n numbered are past none c x =
    let here : c < length w = slice_get_within w c x.0 x.1.place in
    let row = slice_get_cases any c in
    ⊎_elim
    (λ (found : (o : Option ClassId) × (c < length any) × (slice_get any c ≡ Some o) × (get_or any c o ≡ o)).
    said found.0 found.2 (are.exact c found.0 found.2))
    (λ (beyond : (length any ≤ c) × (slice_get any c ≡ None)). absurd (omega (arith, here, beyond.0, are.count)))
    row.1
  where
    said : (o : Option ClassId) → slice_get any c ≡ Some o → SaysAny w c o → ⊥
    said None at says = says own.number x
    said (Some other) at says =
        let number : other.number ≡ own.number = any_one w c other.number own.number numbered says x in
        let same : Some other ≡ Some own = ap (λ (k : ℕ). Some (record { number = k })) number in
        let below : c < n = let here = slice_get_within w c x.0 x.1.place in omega (arith, here, past) in
        none c (Some other) below at same
