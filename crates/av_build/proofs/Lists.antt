-- Lists of classes one behind the other, and pairs of two lists.
use Rattle.std.proofs.Common.{◌≡◌, ℕ, zero, suc, ◌⊎◌, inl, inr, List, [], ◌∷◌, ◌++◌, Some, Contains, map, slice_get, refl, sym, ap, ◌∙◌, subst, ⊎_elim}
use Rattle.std.specs.List.{AllZip}
use Rattle.std.specs.Ordering.{nat_cmp}
use Rattle.std.specs.Cmp.Lexicographic.{nat_list_cmp_total, slice_cmp}
use Rattle.std.specs.declared.cmp.Ordering.{Ordering}
use Rattle.std.specs.declared.cmp.Ordering.TheVariants.{Less, Equal}
use Rattle.std.proofs.lemmas.Cmp.{tied_itself}
use Rattle.std.proofs.lemmas.List.Elements.{Contains-append_cases}
use Rattle.std.proofs.lemmas.Map.Keys.{sorted_tail}
use Rattle.std.proofs.lemmas.Map.Views.{All-after_first}
use Rattle.jv_types.specs.declared.shapes.Shape.{Shape}
use Rattle.jv_world.specs.Worlds.{HaveDistinctNames}
use Rattle.av_collected.specs.Answers.{AreRising}
use Rattle.av_collected.proofs.Lists.{apart_cons, apart_head, apart_tail, in_head, in_none, in_tail, of_cons}
use Rattle.av_collected.proofs.Parts.{none_apart}

-- ---- names

abbrev cmp : List ℕ → List ℕ → Ordering
cmp = slice_cmp nat_cmp

abbrev pub name_of : Shape → List ℕ
name_of s = s.name

pub named_in : (xs : List Shape) (s : Shape) → Contains xs s → Contains (map name_of xs) s.name
named_in [] s h = absurd (in_none s h)
named_in (x ∷ xs) s h =
    ⊎_elim
    (λ is. subst (λ (n : List ℕ). Contains (map name_of (x ∷ xs)) n) (ap name_of is) (in_head x.name (map name_of xs)))
    (λ more. in_tail x.name (map name_of xs) s.name (named_in xs s more))
    (of_cons x xs s h)

pub named_back : (xs : List Shape) (name : List ℕ) → Contains (map name_of xs) name → (s : Shape) × Contains xs s × (s.name ≡ name)
named_back [] name h = absurd (in_none name h)
named_back (x ∷ xs) name h =
    ⊎_elim
    (λ is. (x, in_head x xs, is))
    (λ more. let s = named_back xs name more in (s.0, in_tail x xs s.0 s.1, s.2))
    (of_cons x.name (map name_of xs) name h)

first_apart : (x : Shape) (xs : List Shape) → AreRising (map name_of (x ∷ xs)) → (s : Shape) → Contains xs s → s.name ≡ x.name → ⊥
first_apart x xs rising s h same =
    let own = named_in xs s h in
    let above : cmp x.name s.name ≡ Less = ap (λ (n : List ℕ). cmp x.name n) (sym own.2) ∙ All-after_first cmp x.name (map name_of xs) rising own.0 s.name own.1 in
    let itself : cmp x.name x.name ≡ Equal = tied_itself nat_list_cmp_total x.name in
    let below : cmp x.name x.name ≡ Less = ap (λ (n : List ℕ). cmp x.name n) (sym same) ∙ above in
    absurd cc

-- names in rising order are apart
pub rising_apart : (xs : List Shape) → AreRising (map name_of xs) → HaveDistinctNames xs
rising_apart [] rising = none_apart
rising_apart (x ∷ xs) rising = apart_cons x xs (first_apart x xs rising) (rising_apart xs (sorted_tail cmp x.name (map name_of xs) rising))

-- and so are those of two lists together, where no class of the one has the name of one of the other
pub both_apart : (xs ys : List Shape) → HaveDistinctNames xs → HaveDistinctNames ys → ((s t : Shape) → Contains xs s → Contains ys t → s.name ≡ t.name → ⊥) → HaveDistinctNames (xs ++ ys)
both_apart [] ys a b across = b
both_apart (x ∷ xs) ys a b across =
    apart_cons x (xs ++ ys)
    (λ s h same. ⊎_elim (λ front. apart_head x xs a s front same) (λ behind. across x s (in_head x xs) behind (sym same)) (Contains-append_cases xs ys s h))
    (both_apart xs ys (apart_tail x xs a) b (λ s t p q e. across s t (in_tail x xs s p) q e))

-- ---- pairs

pub right_pair : {X Y : Type 0} (R : X → Y → Type 0) (xs : List X) (ys : List Y) → AllZip R xs ys → (k : ℕ) (y : Y) → slice_get ys k ≡ Some y → (x : X) × (slice_get xs k ≡ Some x) × R x y
right_pair R [] [] all k y e = absurd cc
right_pair R [] (z ∷ ys) all k y e = absurd all
right_pair R (x ∷ xs) [] all k y e = absurd all
right_pair {X} {Y} R (x ∷ xs) (z ∷ ys) all zero y e = let same : z ≡ y = cc in (x, refl, subst (λ (a : Y). R x a) same all.0)
right_pair R (x ∷ xs) (z ∷ ys) all (suc k) y e = right_pair R xs ys all.1 k y e

pub right_of : {X Y : Type 0} (R : X → Y → Type 0) (xs : List X) (ys : List Y) → AllZip R xs ys → (y : Y) → Contains ys y → (x : X) × Contains xs x × R x y
right_of R [] [] all y h = absurd (in_none y h)
right_of R [] (z ∷ ys) all y h = absurd all
right_of R (x ∷ xs) [] all y h = absurd all
right_of {X} {Y} R (x ∷ xs) (z ∷ ys) all y h =
    ⊎_elim
    (λ is. (x, in_head x xs, subst (λ (b : Y). R x b) is all.0))
    (λ more. let a = right_of R xs ys all.1 y more in (a.0, in_tail x xs a.0 a.1, a.2))
    (of_cons z ys y h)
