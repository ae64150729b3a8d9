-- What rising starts give: a search by halves finds the instruction that starts at an offset, and the next one.
use Rattle.std.proofs.Common.{◌≡◌, ℕ, zero, suc, ◌+◌, ◌<◌, ◌≤◌, Bool, true, false, leb, eqb, cond, List, [], ◌∷◌, length, get_or, Some, None, Err, IsSome, refl, sym, inl, inr, arith}
use Rattle.std.proofs.lemmas.Bool.{and_parts, cases_lt}
use Rattle.std.proofs.lemmas.Bool.Decides.{nat_tests}
use Rattle.std.proofs.lemmas.Cmp.{ranked}
use Rattle.std.specs.Ordering.{nat_cmp, ordering_index}
use Rattle.std.specs.List.Sorted.{IsNonDecreasingBy, IsBinarySearchResult, IsPartitionPoint}
use Rattle.jv_types.specs.Bodies.{rises_from, at_offset, IsStart, IsNextStart}

module _ {I : Type 0} where
  -- what a row that doesn't fall below a bound says, and what those after it do
  first_from : (low start : ℕ) (rows : List (ℕ × I)) (i : I) → rises_from low ((start, i) ∷ rows) ≡ true → (low ≤ start) × (rises_from (start + 1) rows ≡ true)
  first_from low start rows i r =
      let parts = and_parts (leb low start) (rises_from (start + 1) rows) r in
      let here = parts.0 in
      (grind (arith, nat_tests), parts.1)

  -- each start is at least the bound
  start_from : (low : ℕ) (rows : List (ℕ × I)) → rises_from low rows ≡ true → (j : ℕ) (d : ℕ × I) → j < length rows → low ≤ (get_or rows j d).0
  start_from low [] r j d lt = absurd (omega arith)
  start_from low (row ∷ rows) r zero d lt = (first_from low row.0 rows row.1 r).0
  start_from low (row ∷ rows) r (suc j) d lt =
      let parts = first_from low row.0 rows row.1 r in
      let more = start_from (row.0 + 1) rows parts.1 j d (omega arith) in
      omega arith

  -- the starts don't fall
  pub starts_rise : (low : ℕ) (rows : List (ℕ × I)) → rises_from low rows ≡ true → IsNonDecreasingBy (λ (row : ℕ × I). row.0) rows
  starts_rise low [] r i j d le lt = absurd (omega arith)
  starts_rise low (row ∷ rows) r zero zero d le lt = omega arith
  starts_rise low (row ∷ rows) r zero (suc j) d le lt =
      let more = start_from (row.0 + 1) rows (first_from low row.0 rows row.1 r).1 j d (omega arith) in
      omega arith
  starts_rise low (row ∷ rows) r (suc i) zero d le lt = absurd (omega arith)
  starts_rise low (row ∷ rows) r (suc i) (suc j) d le lt =
      starts_rise (row.0 + 1) rows (first_from low row.0 rows row.1 r).1 i j d (omega arith) (omega arith)

  -- what stands at a place is the instruction of its start
  pub at_offset-at : (low pc : ℕ) (rows : List (ℕ × I)) → rises_from low rows ≡ true → (i : ℕ) (d : ℕ × I) → i < length rows → (get_or rows i d).0 ≡ pc → at_offset pc rows ≡ Some (get_or rows i d).1
  at_offset-at low pc [] r i d lt e = absurd (omega arith)
  at_offset-at low pc (row ∷ rows) r zero d lt e =
      let same : eqb row.0 pc ≡ true = grind (arith, nat_tests) in
      rw same refl
  at_offset-at low pc (row ∷ rows) r (suc i) d lt e =
      let parts = first_from low row.0 rows row.1 r in
      let more = start_from (row.0 + 1) rows parts.1 i d (omega arith) in
      let other : eqb row.0 pc ≡ false = differs row.0 pc (omega arith) in
      rw other (at_offset-at (row.0 + 1) pc rows parts.1 i d (omega arith) e)
    where
      differs : (m n : ℕ) → m < n → eqb m n ≡ false
      differs m n lt = grind (arith, nat_tests)

  -- where no row starts at an offset there is no instruction
  pub at_offset-none : (pc : ℕ) (rows : List (ℕ × I)) → ((j : ℕ) (d : ℕ × I) → j < length rows → (get_or rows j d).0 ≡ pc → ⊥) → at_offset pc rows ≡ None
  at_offset-none pc [] none = refl
  at_offset-none pc (row ∷ rows) none =
      let other : eqb row.0 pc ≡ false = differs row.0 pc (λ e. none 0 row (omega arith) e) in
      rw other (at_offset-none pc rows (λ j d lt e. none (suc j) d (omega arith) e))
    where
      differs : (m n : ℕ) → (m ≡ n → ⊥) → eqb m n ≡ false
      differs m n ne = grind (arith, nat_tests)

  -- an instruction that starts stands at a place
  pub record StandsAt (pc : ℕ) (rows : List (ℕ × I)) : Type 0 where
    pub place : ℕ
    pub within : place < length rows
    pub start : (d : ℕ × I) → (get_or rows place d).0 ≡ pc

  pub start_place : (pc : ℕ) (rows : List (ℕ × I)) → IsStart rows pc → StandsAt pc rows
  start_place pc [] s = absurd cc
  start_place pc (row ∷ rows) s = by_first (eqb row.0 pc) refl s (λ s. start_place pc rows s)
    where
      by_first : (b : Bool) → eqb row.0 pc ≡ b → IsSome (cond b (Some row.1) (at_offset pc rows)) → (IsStart rows pc → StandsAt pc rows) → StandsAt pc (row ∷ rows)
      by_first true e s rest = let same : row.0 ≡ pc = grind (arith, nat_tests) in record { place = 0; within = omega arith; start = λ d. same }
      by_first false e s rest = let more = rest s in record { place = suc more.place; within = omega (arith, more.within); start = more.start }

  -- what stands at a place starts
  pub starts_at : (low pc : ℕ) (rows : List (ℕ × I)) → rises_from low rows ≡ true → (i : ℕ) (d : ℕ × I) → i < length rows → (get_or rows i d).0 ≡ pc → IsStart rows pc
  starts_at low pc rows r i d lt e = rw (at_offset-at low pc rows r i d lt e) refl

  -- the comparisons with an offset rise along the rows
  comparisons_rise : (low pc : ℕ) (rows : List (ℕ × I)) → rises_from low rows ≡ true → IsNonDecreasingBy (λ (row : ℕ × I). ordering_index (nat_cmp row.0 pc)) rows
  comparisons_rise low pc rows r i j d le lt = compared (get_or rows i d).0 (get_or rows j d).0 pc (starts_rise low rows r i j d le lt)
    where
      compared : (m n pc : ℕ) → m ≤ n → ordering_index (nat_cmp m pc) ≤ ordering_index (nat_cmp n pc)
      compared m n pc le = grind (arith, nat_tests)

  -- a search that finds nothing: nothing starts there
  pub search_none : (low pc at : ℕ) (rows : List (ℕ × I)) → rises_from low rows ≡ true → IsBinarySearchResult (λ (row : ℕ × I). nat_cmp row.0 pc) rows (Err at) → at ≤ length rows → at_offset pc rows ≡ None
  search_none low pc at rows r found within =
      let parted = found (comparisons_rise low pc rows r) in
      at_offset-none pc rows (λ j d lt e.
      elim (cases_lt j at) [
        | inl under ↦ let below = ranked _ pc _ (sym (parted.0 j d (omega arith) under)) in omega arith
        | inr over ↦ let above = ranked _ pc _ (sym (parted.1 j d over lt)) in omega arith
      ])

  -- the offset from which rows start above a given one
  pub next_is : (low pc at : ℕ) (rows : List (ℕ × I)) (d : ℕ × I) → rises_from low rows ≡ true → IsPartitionPoint (λ (row : ℕ × I). leb row.0 pc ≡ true) (λ (row : ℕ × I). leb row.0 pc ≡ false) rows at → at < length rows → IsNextStart pc rows (get_or rows at d).0
  next_is low pc at rows d r parted lt = record {
    above = let more = parted.1 at d (omega arith) lt in grind (arith, nat_tests);
    starts = starts_at low (get_or rows at d).0 rows r at d lt refl;
    least = λ other above s.
        let there = start_place other rows s in
        elim (cases_lt there.place at) [
          | inl under ↦ absurd (not_above _ pc other (parted.0 there.place d (omega arith) under) (there.start d) above)
          | inr over ↦ let le = starts_rise low rows r at there.place d over there.within in omega (arith, there.start d)
        ];
  }
    where
      not_above : (start pc other : ℕ) → leb start pc ≡ true → start ≡ other → pc < other → ⊥
      not_above start pc other le e above = grind (arith, nat_tests)

  -- where rows end, none starts above
  pub next_none : (pc at : ℕ) (rows : List (ℕ × I)) → IsPartitionPoint (λ (row : ℕ × I). leb row.0 pc ≡ true) (λ (row : ℕ × I). leb row.0 pc ≡ false) rows at → length rows ≤ at → (start : ℕ) → pc < start → IsStart rows start → ⊥
  next_none pc at [] parted le start above s = absurd cc
  next_none pc at (row ∷ rows) parted le start above s =
      let there = start_place start (row ∷ rows) s in
      not_above _ pc start (parted.0 there.place row (omega arith) (omega (arith, there.within))) (there.start row) above
    where
      not_above : (start pc other : ℕ) → leb start pc ≡ true → start ≡ other → pc < other → ⊥
      not_above start pc other le e above = grind (arith, nat_tests)
