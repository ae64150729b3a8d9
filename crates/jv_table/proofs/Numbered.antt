-- Rows whose keys are the numbers from one on: each of these numbers has its row, and no other has one.
use Rattle.std.proofs.Common.{◌≡◌, ℕ, ◌+◌, ◌<◌, ◌≤◌, Bool, true, ◌&&◌, eqb, List, [], ◌∷◌, length, inl, inr, Some, None, IsSome, refl, ap, arith}
use Rattle.std.specs.Ordering.{nat_cmp}
use Rattle.std.specs.Cmp.{nat_cmp_is}
use Rattle.std.specs.declared.cmp.Ordering.TheVariants.{Less, Equal, Greater}
use Rattle.std.proofs.lemmas.Bool.{and_parts, cases_lt}
use Rattle.std.proofs.lemmas.Bool.Decides.{nat_tests}
use Rattle.jv_table.specs.CodeRows.{OpForm, opcode_rows}
use Rattle.jv_table.specs.Rows.{row_of}

-- the keys are the numbers from one on, and each row says its own
abbrev pub numbered : ℕ → List (ℕ × OpForm) → Bool
numbered first [] = true
numbered first (row ∷ rows) = (eqb row.0 first && eqb row.1.op first) && numbered (first + 1) rows

record Head (first : ℕ) (row : ℕ × OpForm) (rows : List (ℕ × OpForm)) : Type 0 where
  key : row.0 ≡ first
  own : row.1.op ≡ first
  rest : numbered (first + 1) rows ≡ true

head_of : (first : ℕ) (row : ℕ × OpForm) (rows : List (ℕ × OpForm)) → numbered first (row ∷ rows) ≡ true → Head first row rows
head_of first row rows n =
    let parts = and_parts (eqb row.0 first && eqb row.1.op first) (numbered (first + 1) rows) n in
    let both = and_parts (eqb row.0 first) (eqb row.1.op first) parts.0 in
    let k = both.0 in
    let o = both.1 in
    record { key = same row.0 first k; own = same row.1.op first o; rest = parts.1 }
  where
    same : (m n : ℕ) → eqb m n ≡ true → m ≡ n
    same m n e = grind (arith, nat_tests)

pub none_below : (first : ℕ) (rows : List (ℕ × OpForm)) → numbered first rows ≡ true → (op : ℕ) → op < first → row_of nat_cmp op rows ≡ None
none_below first [] n op lt = refl
none_below first (row ∷ rows) n op lt =
    let h = head_of first row rows n in
    let less : Less ≡ nat_cmp op row.0 = nat_cmp_is op row.0 Less (omega (arith, h.key)) in
    rw (← less) (none_below (first + 1) rows h.rest op (omega arith))

pub none_above : (first : ℕ) (rows : List (ℕ × OpForm)) → numbered first rows ≡ true → (op : ℕ) → first + length rows ≤ op → row_of nat_cmp op rows ≡ None
none_above first [] n op le = refl
none_above first (row ∷ rows) n op le =
    let h = head_of first row rows n in
    let more : Greater ≡ nat_cmp op row.0 = nat_cmp_is op row.0 Greater (omega (arith, h.key)) in
    rw (← more) (none_above (first + 1) rows h.rest op (omega arith))

pub some_within : (first : ℕ) (rows : List (ℕ × OpForm)) → numbered first rows ≡ true → (op : ℕ) → first ≤ op → op < first + length rows → IsSome (row_of nat_cmp op rows)
some_within first [] n op le lt = absurd (omega arith)
some_within first (row ∷ rows) n op le lt =
    let h = head_of first row rows n in
    elim (cases_lt first op) [
      | inl over ↦
          let more : Greater ≡ nat_cmp op row.0 = nat_cmp_is op row.0 Greater (omega (arith, h.key)) in
          rw (← more) (some_within (first + 1) rows h.rest op (omega arith) (omega arith))
      | inr at ↦
          let same : Equal ≡ nat_cmp op row.0 = nat_cmp_is op row.0 Equal (omega (arith, h.key)) in
          rw (← same) refl
    ]

pub own_number : (first : ℕ) (rows : List (ℕ × OpForm)) → numbered first rows ≡ true → (op : ℕ) (row : OpForm) → row_of nat_cmp op rows ≡ Some row → row.op ≡ op
own_number first [] n op found e = absurd cc
own_number first (row ∷ rows) n op found e =
    let h = head_of first row rows n in
    elim (cases_lt op first) [
      | inl under ↦
          let none = none_below first (row ∷ rows) n op under in
          absurd cc
      | inr over ↦ elim (cases_lt first op) [
        | inl above ↦
            let more : Greater ≡ nat_cmp op row.0 = nat_cmp_is op row.0 Greater (omega (arith, h.key)) in
            own_number (first + 1) rows h.rest op found (rw (← more) at e)
        | inr at ↦
            let same : Equal ≡ nat_cmp op row.0 = nat_cmp_is op row.0 Equal (omega (arith, h.key)) in
            let is : Some row.1 ≡ Some found = rw (← same) at e in
            let it : row.1 ≡ found = cc in
            omega (arith, ap (λ (r : OpForm). r.op) it, h.own)
      ]
    ]

pub opcodes_numbered : numbered 0 opcode_rows ≡ true
unfolding opcode_rows
opcodes_numbered = refl

pub opcodes_counted : length opcode_rows ≡ 202
unfolding opcode_rows
opcodes_counted = refl
