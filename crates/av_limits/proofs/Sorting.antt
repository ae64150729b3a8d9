-- Names that are put into rising order one by one.
use Rattle.std.proofs.Common.{◌≡◌, ℕ, ◌+◌, ◌⊎◌, inl, inr, List, [], ◌∷◌, sum_by, Contains, refl, sym, ap, ◌∙◌, subst, ⊎_elim, arith}
use Rattle.std.specs.List.{AllByRecursion}
use Rattle.std.specs.List.Sorted.{IsStrictlySortedBy}
use Rattle.std.specs.Ordering.{nat_cmp, ordering_reverse}
use Rattle.std.specs.declared.cmp.Ordering.{Ordering}
use Rattle.std.specs.declared.cmp.Ordering.TheVariants.{Less, Equal, Greater}
use Rattle.std.specs.Cmp.Lexicographic.{slice_cmp}
use Rattle.std.proofs.lemmas.Cmp.{nat_list_cmp_total, tied_itself}
use Rattle.std.proofs.lemmas.List.Sums.{sum_by-cons}
use Rattle.std.proofs.lemmas.Map.Keys.{sorted_head, sorted_tail}
use Rattle.std.proofs.lemmas.Map.Lookups.{exact_bytes}
use Rattle.av_asked.specs.Asking.{AreDistinct}
use Rattle.av_collected.specs.Answers.{AreRising}
use Rattle.av_collected.proofs.Lists.{in_head, in_none, in_tail, of_cons}

-- the one name comes before the other
abbrev IsBefore : List ℕ → List ℕ → Type 0
IsBefore name other = slice_cmp nat_cmp name other ≡ Less

all_each : (P : List ℕ → Type 0) (names : List (List ℕ)) → ((name : List ℕ) → Contains names name → P name) → AllByRecursion P names
all_each P [] each = tt
all_each P (name ∷ names) each = (each name (in_head name names), all_each P names (λ other h. each other (in_tail name names other h)))

among_all : (P : List ℕ → Type 0) (names : List (List ℕ)) (name : List ℕ) → AllByRecursion P names → Contains names name → P name
among_all P [] name all h = absurd (in_none name h)
among_all P (first ∷ names) name all h = ⊎_elim (λ same. subst P same all.0) (λ later. among_all P names name all.1 later) (of_cons first names name h)

-- ---- lists that rise

pub none_rises : AreRising []
unfolding IsStrictlySortedBy
none_rises = tt

rising_cons : (name : List ℕ) (names : List (List ℕ)) → AllByRecursion (IsBefore name) names → AreRising names → AreRising (name ∷ names)
unfolding IsStrictlySortedBy
rising_cons name names above rising = (above, rising)

-- the first is before those behind it
first_before : (name : List ℕ) (names : List (List ℕ)) → AreRising (name ∷ names) → (other : List ℕ) → Contains names other → IsBefore name other
first_before name names rising other h =
    among_all (IsBefore name) names other (sorted_head (slice_cmp nat_cmp) name names rising) h

not_before_itself : (name : List ℕ) → IsBefore name name → ⊥
not_before_itself name before = let e : Less ≡ Equal = sym before ∙ tied_itself nat_list_cmp_total name in cc

-- so each stands in it once
pub rising_distinct : (names : List (List ℕ)) → AreRising names → AreDistinct names
rising_distinct [] rising = tt
rising_distinct (name ∷ names) rising = (
  λ h. not_before_itself name (first_before name names rising name h),
  rising_distinct names (sorted_tail (slice_cmp nat_cmp) name names rising),
)

-- ---- one name more

pub record IsPut (f : List ℕ → ℕ) (name : List ℕ) (names more : List (List ℕ)) : Type 0 where
  pub rising : AreRising more
  pub was : (other : List ℕ) → Contains more other → (name ≡ other) ⊎ Contains names other
  pub sum : sum_by f more ≡ f name + sum_by f names

module _ (f : List ℕ → ℕ) (name : List ℕ) where
  put_last : IsPut f name [] (name ∷ [])
  put_last = record {
    rising = rising_cons name [] tt none_rises;
    was = λ other h. of_cons name [] other h;
    sum = sum_by-cons f name [];
  }

  module _ (first : List ℕ) (names : List (List ℕ)) (rising : AreRising (first ∷ names)) where
    put_before : IsBefore name first → IsPut f name (first ∷ names) (name ∷ first ∷ names)
    put_before before = record {
      rising = rising_cons name (first ∷ names) (all_each (IsBefore name) (first ∷ names) above) rising;
      was = λ other h. of_cons name (first ∷ names) other h;
      sum = sum_by-cons f name (first ∷ names);
    }
      where
        above : (other : List ℕ) → Contains (first ∷ names) other → IsBefore name other
        above other h =
            ⊎_elim
            (λ same. subst (IsBefore name) same before)
            (λ later. nat_list_cmp_total.trans name first other before (first_before first names rising other later))
            (of_cons first names other h)

    put_behind : IsBefore first name → (more : List (List ℕ)) → IsPut f name names more → IsPut f name (first ∷ names) (first ∷ more)
    put_behind before more put = record {
      rising = rising_cons first more (all_each (IsBefore first) more above) put.rising;
      was = λ other h.
          ⊎_elim
          (λ same. inr (subst (Contains (first ∷ names)) same (in_head first names)))
          (λ later. ⊎_elim (λ (same : name ≡ other). inl same) (λ (had : Contains names other). inr (in_tail first names other had)) (put.was other later))
          (of_cons first more other h);
      sum = omega (arith, put.sum, sum_by-cons f first more, sum_by-cons f first names);
    }
      where
        above : (other : List ℕ) → Contains more other → IsBefore first other
        above other h =
            ⊎_elim
            (λ same. subst (IsBefore first) same before)
            (λ (had : Contains names other). first_before first names rising other had)
            (put.was other h)

    -- by how the name and the first compare
    put_by : ¬ Contains (first ∷ names) name → (more : List (List ℕ)) × IsPut f name names more → (o : Ordering) → slice_cmp nat_cmp name first ≡ o
        → (more : List (List ℕ)) × IsPut f name (first ∷ names) more
    put_by new rest Less e = (name ∷ first ∷ names, put_before e)
    put_by new rest Equal e = absurd (new (subst (Contains (first ∷ names)) (sym (exact_bytes name first e)) (in_head first names)))
    put_by new rest Greater e =
        let before : IsBefore first name = nat_list_cmp_total.antisymm first name ∙ ap ordering_reverse e in
        (first ∷ rest.0, put_behind before rest.0 rest.1)

  -- a name that a rising list has not can be put into it
  pub put : (names : List (List ℕ)) → AreRising names → ¬ Contains names name → (more : List (List ℕ)) × IsPut f name names more
  put [] rising new = (name ∷ [], put_last)
  put (first ∷ names) rising new =
      put_by first names rising new
      (put names (sorted_tail (slice_cmp nat_cmp) first names rising) (λ h. new (in_tail first names name h)))
      (slice_cmp nat_cmp name first) refl
