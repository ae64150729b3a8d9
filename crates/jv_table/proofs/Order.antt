-- What rising keys give: a search by halves finds the row of a key, and a key has one row.
use Rattle.std.proofs.Common.{◌≡◌, ◌≢◌, ℕ, zero, suc, ◌+◌, ◌<◌, ◌≤◌, true, List, [], ◌∷◌, length, get_or, Some, None, refl, sym, ap, ◌∙◌, inl, inr, ◌⊎◌, arith}
use Rattle.std.proofs.lemmas.Bool.{and_parts, cases_lt}
use Rattle.std.proofs.lemmas.List.{get_or_default}
use Rattle.std.proofs.lemmas.Option.{slice_get-get_or, slice_get_within, get_or_from_slice_get}
use Rattle.std.specs.Cmp.{IsTotalOrder, tied_back}
use Rattle.std.specs.List.{AllWithin}
use Rattle.std.specs.Ordering.{is_lt, ordering_reverse}
use Rattle.std.specs.declared.cmp.Ordering.{Ordering}
use Rattle.std.specs.declared.cmp.Ordering.TheVariants.{Less, Equal, Greater}
use Rattle.jv_table.specs.Rows.{rises, rises_above, row_of, IsRowOf}

cases_le : (i j : ℕ) → i ≤ j → (i < j) ⊎ (i ≡ j)
cases_le i j le = elim (cases_lt i j) [ inl lt ↦ inl lt | inr ge ↦ inr (omega arith) ]

less_is : (r : Ordering) → is_lt r ≡ true → r ≡ Less
less_is Less e = refl
less_is Equal e = absurd cc
less_is Greater e = absurd cc

module _ {K R : Type 0} {cmp : K → K → Ordering} (o : IsTotalOrder cmp) where
  -- rows that rise above a key rise
  rises_rest : (key : K) (rows : List (K × R)) → rises_above cmp key rows ≡ true → rises cmp rows ≡ true
  rises_rest key [] r = refl
  rises_rest key (row ∷ rows) r = (and_parts (is_lt (cmp key row.0)) (rises_above cmp row.0 rows) r).1

  -- a key that rows rise above is below each of theirs
  above : (key : K) (rows : List (K × R)) → rises_above cmp key rows ≡ true → (j : ℕ) (d : K × R) → j < length rows → cmp key (get_or rows j d).0 ≡ Less
  above key [] r j d lt = absurd (omega arith)
  above key (row ∷ rows) r zero d lt =
      less_is (cmp key row.0) (and_parts (is_lt (cmp key row.0)) (rises_above cmp row.0 rows) r).0
  above key (row ∷ rows) r (suc j) d lt =
      let parts = and_parts (is_lt (cmp key row.0)) (rises_above cmp row.0 rows) r in
      o.trans key row.0 (get_or rows j d).0 (less_is (cmp key row.0) parts.0) (above row.0 rows parts.1 j d (omega arith))

  -- an earlier key is below a later one
  pub rising : (rows : List (K × R)) → rises cmp rows ≡ true → (i j : ℕ) (d : K × R) → i < j → j < length rows → cmp (get_or rows i d).0 (get_or rows j d).0 ≡ Less
  rising [] r i j d below lt = absurd (omega arith)
  rising (row ∷ rows) r zero zero d below lt = absurd (omega arith)
  rising (row ∷ rows) r zero (suc j) d below lt = above row.0 rows r j d (omega arith)
  rising (row ∷ rows) r (suc i) zero d below lt = absurd (omega arith)
  rising (row ∷ rows) r (suc i) (suc j) d below lt = rising rows (rises_rest row.0 rows r) i j d (omega arith) (omega arith)

  -- a row that stands at a place with an equal key is the row of the key
  pub row_of-at : (rows : List (K × R)) (key : K) (i : ℕ) (d : K × R) → rises cmp rows ≡ true → i < length rows → cmp key (get_or rows i d).0 ≡ Equal → row_of cmp key rows ≡ Some (get_or rows i d).1
  row_of-at [] key i d r lt e = absurd (omega arith)
  row_of-at (row ∷ rows) key zero d r lt e = rw e refl
  row_of-at (row ∷ rows) key (suc i) d r lt e =
      let below = above row.0 rows r i d (omega arith) in
      let far : cmp key row.0 ≡ Greater = o.congr key (get_or rows i d).0 row.0 e ∙ o.antisymm (get_or rows i d).0 row.0 ∙ ap ordering_reverse below in
      rw far (row_of-at rows key i d (rises_rest row.0 rows r) (omega arith) e)

  -- where no key is equal there is no row
  pub row_of-none : (rows : List (K × R)) (key : K) → ((i : ℕ) (d : K × R) → i < length rows → cmp key (get_or rows i d).0 ≡ Equal → ⊥) → row_of cmp key rows ≡ None
  row_of-none [] key none_equal = refl
  row_of-none (row ∷ rows) key none_equal =
      let rest : row_of cmp key rows ≡ None = row_of-none rows key (λ i d lt. none_equal (suc i) d (omega arith)) in
      by_head (cmp key row.0) refl rest
    where
      by_head : (r : Ordering) → cmp key row.0 ≡ r → row_of cmp key rows ≡ None → row_of cmp key (row ∷ rows) ≡ None
      by_head Less e rest = rw e rest
      by_head Equal e rest = absurd (none_equal 0 row (omega arith) e)
      by_head Greater e rest = rw e rest

  -- what stands in the rows is what `row_of` gives
  pub row_of-is : (rows : List (K × R)) (key : K) (row : R) → rises cmp rows ≡ true → IsRowOf cmp key rows row → row_of cmp key rows ≡ Some row
  row_of-is rows key row r h =
      let lt = slice_get_within rows h.place (h.own_key, row) h.stands in
      let d : K × R = (h.own_key, row) in
      let read : get_or rows h.place d ≡ d = get_or_from_slice_get rows h.place d d h.stands in
      let e : cmp key (get_or rows h.place d).0 ≡ Equal = ap (λ (p : K × R). cmp key p.0) read ∙ h.equal in
      row_of-at rows key h.place d r lt e ∙ ap (λ (p : K × R). Some p.1) read

  -- a key has one row
  pub one_row : (rows : List (K × R)) (key : K) (x y : R) → rises cmp rows ≡ true → IsRowOf cmp key rows x → IsRowOf cmp key rows y → x ≡ y
  one_row rows key x y r p q = same_some x y (sym (row_of-is rows key x r p) ∙ row_of-is rows key y r q)
    where
      same_some : (x y : R) → Some x ≡ Some y → x ≡ y
      same_some x y e = cc

  -- the row that stands at a place with an equal key
  pub found_at : (rows : List (K × R)) (key : K) (i : ℕ) (d : K × R) → i < length rows → cmp (get_or rows i d).0 key ≡ Equal → IsRowOf cmp key rows (get_or rows i d).1
  found_at rows key i d lt e = record {
    place = i;
    own_key = (get_or rows i d).0;
    stands = slice_get-get_or rows i d lt;
    equal = tied_back o (get_or rows i d).0 key e;
  }

  -- where no key is equal, nothing is the row of the key
  pub none_at : (rows : List (K × R)) (key : K) → AllWithin (λ row. cmp row.0 key ≢ Equal) rows 0 (length rows) → (j : ℕ) (d : K × R) → j < length rows → cmp key (get_or rows j d).0 ≡ Equal → ⊥
  none_at rows key none_equal j d lt e = none_equal j d (omega arith) lt (tied_back o key (get_or rows j d).0 e)

  pub none_is : (rows : List (K × R)) (key : K) → AllWithin (λ row. cmp row.0 key ≢ Equal) rows 0 (length rows) → (row : R) → IsRowOf cmp key rows row → ⊥
  none_is rows key none_equal row r =
      let lt = slice_get_within rows r.place (r.own_key, row) r.stands in
      let d : K × R = (r.own_key, row) in
      let read : get_or rows r.place d ≡ d = get_or_from_slice_get rows r.place d d r.stands in
      none_at rows key none_equal r.place d lt (ap (λ (p : K × R). cmp key p.0) read ∙ r.equal)

  -- what a search by halves knows: keys before `low` are below the key, and those from `high` on above it
  pub record Halves (rows : List (K × R)) (key : K) (low high : ℕ) : Type 0 where
    pub order : low ≤ high
    pub within : high ≤ length rows
    pub below : AllWithin (λ row. cmp row.0 key ≡ Less) rows 0 low
    pub beyond : AllWithin (λ row. cmp row.0 key ≡ Greater) rows high (length rows)

  pub halves_none : (rows : List (K × R)) (key : K) → Halves rows key 0 (length rows)
  halves_none rows key = record {
    order = omega arith;
    within = omega arith;
    below = λ k d ge lt. absurd (omega arith);
    beyond = λ k d ge lt. absurd (omega arith);
  }

  -- the middle key is below the key, and so are those before it
  pub halves_low : (rows : List (K × R)) (key : K) (low high middle : ℕ) (d : K × R) → rises cmp rows ≡ true → Halves rows key low high → middle < high → cmp (get_or rows middle d).0 key ≡ Less → Halves rows key (middle + 1) high
  halves_low rows key low high middle d r h lt e = record {
    order = omega arith;
    within = h.within;
    below = λ k d' ge below.
        let same : cmp (get_or rows middle d').0 key ≡ Less = rw (get_or_default rows middle d' d (omega (arith, h.within))) e in
        elim (cases_lt k middle) [
          | inl under ↦ o.trans (get_or rows k d').0 (get_or rows middle d').0 key (rising rows r k middle d' under (omega (arith, h.within))) same
          | inr at ↦ let is : k ≡ middle = omega arith in rw is same
        ];
    beyond = h.beyond;
  }

  -- the middle key is above the key, and so are those after it
  pub halves_high : (rows : List (K × R)) (key : K) (low high middle : ℕ) (d : K × R) → rises cmp rows ≡ true → Halves rows key low high → low ≤ middle → middle < high → cmp (get_or rows middle d).0 key ≡ Greater → Halves rows key low middle
  halves_high rows key low high middle d r h le lt e = record {
    order = le;
    within = omega (arith, h.within);
    below = h.below;
    beyond = λ k d' ge below.
        let same : cmp (get_or rows middle d').0 key ≡ Greater = rw (get_or_default rows middle d' d (omega (arith, h.within))) e in
        elim (cases_lt middle k) [
          | inl over ↦
              let step : cmp key (get_or rows k d').0 ≡ Less = o.trans key (get_or rows middle d').0 (get_or rows k d').0 (o.antisymm key (get_or rows middle d').0 ∙ ap ordering_reverse same) (rising rows r middle k d' over below) in
              o.antisymm (get_or rows k d').0 key ∙ ap ordering_reverse step
          | inr at ↦ let is : k ≡ middle = omega arith in rw is same
        ];
  }

  -- where the halves meet, no key is equal
  pub halves_all : (rows : List (K × R)) (key : K) (low high : ℕ) → Halves rows key low high → high ≤ low → AllWithin (λ row. cmp row.0 key ≢ Equal) rows 0 (length rows)
  halves_all rows key low high h met k d ge lt e =
      elim (cases_lt k low) [
        | inl under ↦ let less = h.below k d (omega arith) under in cc
        | inr over ↦ let more = h.beyond k d (omega (arith, h.order)) lt in cc
      ]
