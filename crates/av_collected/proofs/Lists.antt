-- What a list has, and lists of shapes with names apart.
use Rattle.std.proofs.Common.{◌≡◌, ℕ, zero, suc, ◌⊎◌, inl, inr, Bool, true, false, List, [], ◌∷◌, Some, slice_get, Contains, refl, ap, sym, ◌∙◌, arith, Decides}
use Rattle.std.proofs.lemmas.Bool.Decides.{Decides-eqb}
use Rattle.std.proofs.lemmas.Option.{slice_get-get_or, same_Some}
use Rattle.std.proofs.lemmas.Slice.Eq.{slice_eq-Decides}
use Rattle.std.specs.Prelude.{nat_eq}
use Rattle.std.specs.Cmp.Lexicographic.{pointwise}
use Rattle.jv_types.specs.declared.shapes.Shape.{Shape}
use Rattle.jv_resolve.proofs.PlacesLemmas.{among_from_get}
use Rattle.jv_world.specs.Worlds.{HaveDistinctNames}

pub in_head : {X : Type 0} (x : X) (xs : List X) → Contains (x ∷ xs) x
in_head x xs = (0, omega arith, refl)

pub in_tail : {X : Type 0} (x : X) (xs : List X) (y : X) → Contains xs y → Contains (x ∷ xs) y
in_tail x xs y h = (suc h.0, omega (arith, h.1), h.2)

pub of_cons : {X : Type 0} (x : X) (xs : List X) (y : X) → Contains (x ∷ xs) y → (x ≡ y) ⊎ Contains xs y
of_cons x xs y (zero, below, is) = inl is
of_cons x xs y (suc k, below, is) = inr (k, omega (arith, below), is)

pub in_none : {X : Type 0} (y : X) → Contains [] y → ⊥
in_none y h = absurd (omega (arith, h.1))

pub at_place : {X : Type 0} (xs : List X) (x : X) (p : Contains xs x) → slice_get xs p.0 ≡ Some x
at_place {X} xs x p = slice_get-get_or xs p.0 x p.1 ∙ ap (λ (y : X). Some y) p.2

-- ---- names

same_bytes : (r : Bool) (x y : List ℕ) → Decides r (x ≡ y) → (x ≡ y) ⊎ (x ≡ y → ⊥)
same_bytes true x y h = inl (h.0 refl)
same_bytes false x y h = inr (λ e. absurd cc (h.1 e))

pub same_name : (x y : List ℕ) → (x ≡ y) ⊎ (x ≡ y → ⊥)
same_name x y = same_bytes (pointwise nat_eq x y) x y (slice_eq-Decides Decides-eqb x y (pointwise nat_eq x y) refl)

-- ---- lists of shapes whose names are apart

pub apart_tail : (x : Shape) (xs : List Shape) → HaveDistinctNames (x ∷ xs) → HaveDistinctNames xs
apart_tail x xs apart c d name p q = let e : suc c ≡ suc d = apart (suc c) (suc d) name p q in omega (arith, e)

pub apart_head : (x : Shape) (xs : List Shape) → HaveDistinctNames (x ∷ xs) → (s : Shape) → Contains xs s → s.name ≡ x.name → ⊥
apart_head x xs apart s h same =
    let e : suc h.0 ≡ 0 = apart (suc h.0) 0 x.name (s, at_place xs s h, same) (x, refl, refl) in
    absurd (omega (arith, e))

pub apart_cons : (x : Shape) (xs : List Shape) → ((s : Shape) → Contains xs s → s.name ≡ x.name → ⊥) → HaveDistinctNames xs → HaveDistinctNames (x ∷ xs)
apart_cons x xs fresh rest zero zero name p q = refl
apart_cons x xs fresh rest zero (suc d) name p q =
    absurd (fresh q.0 (among_from_get xs d q.0 q.1) (q.2 ∙ sym p.2 ∙ ap (λ (s : Shape). s.name) (sym (same_Some x p.0 p.1))))
apart_cons x xs fresh rest (suc c) zero name p q =
    absurd (fresh p.0 (among_from_get xs c p.0 p.1) (p.2 ∙ sym q.2 ∙ ap (λ (s : Shape). s.name) (sym (same_Some x q.0 q.1))))
apart_cons x xs fresh rest (suc c) (suc d) name p q = ap suc (rest c d name p q)
