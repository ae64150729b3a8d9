-- Rows by their offsets: what starts where, and the start before another one.
use Rattle.std.proofs.Common.{◌≡◌, ℕ, zero, suc, ◌+◌, ◌<◌, ◌≤◌, Bool, true, false, cond, eqb, ltb, List, [], ◌∷◌, map, Option, Some, None, refl, sym, ap, ◌∙◌, subst, arith}
use Rattle.std.specs.Prelude.{nat_le, IsSome}
use Rattle.std.proofs.lemmas.Bool.{and_parts}
use Rattle.std.proofs.lemmas.Bool.Decides.{nat_tests}
use Rattle.jv_types.specs.Bodies.{at_offset, rises_from, IsStart, IsNextStart}

abbrev pub keys : {X : Type 0} → List (ℕ × X) → List ℕ
keys {X} rows = map (λ (row : ℕ × X). row.0) rows

same_first : (a b : ℕ) (xs ys : List ℕ) → a ∷ xs ≡ b ∷ ys → a ≡ b
same_first a b xs ys e = cc

same_rest : (a b : ℕ) (xs ys : List ℕ) → a ∷ xs ≡ b ∷ ys → xs ≡ ys
same_rest a b xs ys e = cc

empty_no_more : (b : ℕ) (ys : List ℕ) → [] ≡ b ∷ ys → ⊥
empty_no_more b ys e = absurd cc

-- rows of the same offsets start at the same ones
pub key_start : {X Y : Type 0} (xs : List (ℕ × X)) (ys : List (ℕ × Y)) (pc : ℕ) → keys xs ≡ keys ys → IsStart xs pc → IsStart ys pc
key_start [] [] pc e s = s
key_start [] (y ∷ ys) pc e s = absurd (empty_no_more y.0 (keys ys) e)
key_start (x ∷ xs) [] pc e s = absurd (empty_no_more x.0 (keys xs) (sym e))
key_start (x ∷ xs) (y ∷ ys) pc e s =
    by (eqb x.0 pc) (eqb y.0 pc) (ap (λ (k : ℕ). eqb k pc) (same_first x.0 y.0 (keys xs) (keys ys) e)) s (key_start xs ys pc (same_rest x.0 y.0 (keys xs) (keys ys) e))
  where
    by : (b c : Bool) → b ≡ c → IsSome (cond b (Some x.1) (at_offset pc xs)) → (IsSome (at_offset pc xs) → IsSome (at_offset pc ys)) → IsSome (cond c (Some y.1) (at_offset pc ys))
    by true true e s more = refl
    by false false e s more = more s
    by true false e s more = absurd cc
    by false true e s more = absurd cc

pub starts_by : {X : Type 0} (o : Option X) (x : X) → o ≡ Some x → IsSome o
starts_by o x e = rw e refl

pub nothing_starts : {X : Type 0} (o : Option X) → o ≡ None → IsSome o → ⊥
nothing_starts None e s = absurd cc
nothing_starts (Some x) e s = absurd cc

-- nothing starts below
below_none : {X : Type 0} (low pc : ℕ) (rows : List (ℕ × X)) → rises_from low rows ≡ true → pc < low → at_offset pc rows ≡ None
below_none low pc [] r lt = refl
below_none low pc (row ∷ rows) r lt =
    let parts = and_parts (nat_le low row.0) (rises_from (row.0 + 1) rows) r in
    let le : low ≤ row.0 = grind (arith, nat_tests) in
    let other : eqb row.0 pc ≡ false = grind (arith, nat_tests) in
    rw other (below_none (row.0 + 1) pc rows parts.1 (omega arith))

pub keys_rise : {X Y : Type 0} (low : ℕ) (xs : List (ℕ × X)) (ys : List (ℕ × Y)) → keys xs ≡ keys ys → rises_from low xs ≡ true → rises_from low ys ≡ true
keys_rise low [] [] e r = refl
keys_rise low [] (y ∷ ys) e r = absurd (empty_no_more y.0 (keys ys) e)
keys_rise low (x ∷ xs) [] e r = absurd (empty_no_more x.0 (keys xs) (sym e))
keys_rise low (x ∷ xs) (y ∷ ys) e r =
    let first : x.0 ≡ y.0 = same_first x.0 y.0 (keys xs) (keys ys) e in
    let parts = and_parts (nat_le low x.0) (rises_from (x.0 + 1) xs) r in
    let rest : rises_from (x.0 + 1) ys ≡ true = keys_rise (x.0 + 1) xs ys (same_rest x.0 y.0 (keys xs) (keys ys) e) parts.1 in
    let head : nat_le low y.0 ≡ true = ap (nat_le low) (sym first) ∙ parts.0 in
    let tail : rises_from (y.0 + 1) ys ≡ true = ap (λ (k : ℕ). rises_from (k + 1) ys) (sym first) ∙ rest in
    rw (head, tail) refl

-- rows that rise and have the same offsets are the same, where the same starts at each
pub same_rows : {X : Type 0} (low : ℕ) (xs ys : List (ℕ × X)) → keys xs ≡ keys ys → rises_from low xs ≡ true → ((pc : ℕ) → at_offset pc xs ≡ at_offset pc ys) → xs ≡ ys
same_rows low [] [] e r at = refl
same_rows low [] (y ∷ ys) e r at = absurd (empty_no_more y.0 (keys ys) e)
same_rows low (x ∷ xs) [] e r at = absurd (empty_no_more x.0 (keys xs) (sym e))
same_rows {X} low (x ∷ xs) (y ∷ ys) e r at =
    let first : x.0 ≡ y.0 = same_first x.0 y.0 (keys xs) (keys ys) e in
    let parts = and_parts (nat_le low x.0) (rises_from (x.0 + 1) xs) r in
    let rest_keys = same_rest x.0 y.0 (keys xs) (keys ys) e in
    let rest_rise : rises_from (x.0 + 1) ys ≡ true = keys_rise (x.0 + 1) xs ys rest_keys parts.1 in
    let itself : eqb x.0 x.0 ≡ true = grind (arith, nat_tests) in
    let other : eqb y.0 x.0 ≡ true = ap (λ (k : ℕ). eqb k x.0) (sym first) ∙ itself in
    let left : cond (eqb x.0 x.0) (Some x.1) (at_offset x.0 xs) ≡ Some x.1 = ap (λ (b : Bool). cond b (Some x.1) (at_offset x.0 xs)) itself in
    let right : cond (eqb y.0 x.0) (Some y.1) (at_offset x.0 ys) ≡ Some y.1 = ap (λ (b : Bool). cond b (Some y.1) (at_offset x.0 ys)) other in
    let some : Some x.1 ≡ Some y.1 = sym left ∙ at x.0 ∙ right in
    let second : x.1 ≡ y.1 = cc in
    let rest : xs ≡ ys = same_rows (x.0 + 1) xs ys rest_keys parts.1 (λ pc. tail pc (eqb x.0 pc) refl (eqb y.0 pc) (ap (λ (k : ℕ). eqb k pc) (sym first)) (at pc) rest_rise parts.1) in
    let head : x ≡ y = λ i. (first i, second i) in
    λ i. head i ∷ rest i
  where
    tail : (pc : ℕ) (b : Bool) → eqb x.0 pc ≡ b → (c : Bool) → c ≡ eqb x.0 pc → cond b (Some x.1) (at_offset pc xs) ≡ cond c (Some y.1) (at_offset pc ys) → rises_from (x.0 + 1) ys ≡ true → rises_from (x.0 + 1) xs ≡ true
        → at_offset pc xs ≡ at_offset pc ys
    tail pc false is false was e ry rx = e
    tail pc false is true was e ry rx = absurd cc
    tail pc true is c was e ry rx =
        let below : pc < x.0 + 1 = grind (arith, nat_tests) in
        below_none (x.0 + 1) pc xs rx below ∙ sym (below_none (x.0 + 1) pc ys ry below)

-- ---- the start before

pub record IsBefore {X : Type 0} (rows : List (ℕ × X)) (pc : ℕ) : Type 0 where
  pub start : ℕ
  pub starts : IsStart rows start
  pub next : IsNextStart start rows pc

search_down : {X : Type 0} (rows : List (ℕ × X)) (pc k : ℕ) → IsStart rows 0 → 0 < pc → IsStart rows pc → k ≤ pc → ((other : ℕ) → k ≤ other → IsStart rows other → pc ≤ other) → IsBefore rows pc
search_down rows pc zero zero_starts above starts le least = absurd (let le : pc ≤ 0 = least 0 (omega arith) zero_starts in omega arith)
search_down {X} rows pc (suc k) zero_starts above starts le least = by (at_offset k rows) refl (λ h. search_down rows pc k zero_starts above starts (omega arith) h)
  where
    by : (o : Option X) → at_offset k rows ≡ o → (((other : ℕ) → k ≤ other → IsStart rows other → pc ≤ other) → IsBefore rows pc) → IsBefore rows pc
    by (Some x) e lower =
        record {
          start = k;
          starts = starts_by (at_offset k rows) x e;
          next = record { above = omega arith; starts = starts; least = λ other lt s. least other (omega arith) s };
        }
    by None e lower = lower (λ other low s. at_or_above other low s (eqb k other) refl e)
      where
        at_or_above : (other : ℕ) → k ≤ other → IsStart rows other → (b : Bool) → eqb k other ≡ b → at_offset k rows ≡ None → pc ≤ other
        at_or_above other low s true is none =
            let same : other ≡ k = grind (arith, nat_tests) in
            absurd (nothing_starts (at_offset k rows) none (subst (λ (n : ℕ). IsStart rows n) same s))
        at_or_above other low s false is none = least other (grind (arith, nat_tests)) s

-- a start above 0, where one is at 0, is the next one of another
pub start_before : {X : Type 0} (rows : List (ℕ × X)) (pc : ℕ) → IsStart rows 0 → 0 < pc → IsStart rows pc → IsBefore rows pc
start_before rows pc zero_starts above starts = search_down rows pc pc zero_starts above starts (omega arith) (λ other le s. le)

-- one start has one next, and one is before
pub one_before : {X : Type 0} (rows : List (ℕ × X)) (a b pc : ℕ) → IsStart rows a → IsStart rows b → IsNextStart a rows pc → IsNextStart b rows pc → a ≡ b
one_before rows a b pc s t x y = by (ltb a b) refl (ltb b a) refl
  where
    by : (less : Bool) → ltb a b ≡ less → (more : Bool) → ltb b a ≡ more → a ≡ b
    by true lt more gt =
        let below : a < b = grind (arith, nat_tests) in
        let end : pc ≤ b = x.least b below t in
        let above : b < pc = y.above in
        absurd (omega arith)
    by false lt true gt =
        let below : b < a = grind (arith, nat_tests) in
        let end : pc ≤ a = y.least a below s in
        let above : a < pc = x.above in
        absurd (omega arith)
    by false lt false gt = grind (arith, nat_tests)
