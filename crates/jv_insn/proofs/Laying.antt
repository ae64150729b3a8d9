-- Instructions one behind the other: as a loop lays them, and that there is one way.
use Rattle.std.proofs.Common.{◌≡◌, ℕ, ◌+◌, ◌-◌, ◌<◌, ◌≤◌, Bool, true, false, eqb, leb, cond, List, [], ◌∷◌, ◌++◌, length, Option, Some, None, IsSome, refl, sym, ap, subst, ◌∙◌, append_assoc, length-append, arith}
use Rattle.std.proofs.lemmas.List.{append-nil}
use Rattle.std.proofs.lemmas.Bool.Decides.{nat_tests}
use Rattle.jv_types.specs.Bodies.{IsStart, rises_from, at_offset}
use Rattle.jv_read.proofs.Fronts.{some_is}
use Rattle.jv_insn.specs.declared.written.Written.{Written}
use Rattle.jv_insn.specs.Layouts.{head_text, BeginsWithInsn, NoInsn, Ends, AtEnd, BreaksOff, Lays}
use Rattle.jv_insn.specs.Steps.Reading.{written_at}
use Rattle.jv_insn.specs.Steps.Rows.{AreRows}
use Rattle.jv_insn.proofs.SpelledInsns.{written_takes, written_again}

-- an instruction has a byte or more
head_some : (wide : Bool) (op : ℕ) → 0 < length (head_text wide op)
head_some true op = omega arith
head_some false op = omega arith

pub begins_shorter : (pc : ℕ) (bytes : List ℕ) (written : Written) (rest : List ℕ) → BeginsWithInsn pc bytes written rest → length rest < length bytes
begins_shorter pc bytes written rest b =
    let some = head_some written.wide written.op in
    let front : length b.front ≡ length (head_text written.wide written.op) + length b.is_text.operands = ap length b.is_text.spelled ∙ length-append (head_text written.wide written.op) b.is_text.operands in
    let whole : length bytes ≡ length b.front + length rest = ap length b.parts ∙ length-append b.front rest in
    omega arith

-- ---- a loop

-- the rows that were laid, and those that are still laid
pub record LaidSoFar (code : List ℕ) (rows : List (ℕ × Written)) (left : List ℕ) : Type 0 where
  pub within : length left ≤ length code
  pub lays : (more : List (ℕ × Written)) (end : Option ℕ) → Lays (length code - length left) left more end → Lays 0 code (rows ++ more) end

pub laid_begin : (code : List ℕ) (rows : List (ℕ × Written)) (left : List ℕ) → rows ≡ [] → left ≡ code → LaidSoFar code rows left
laid_begin code rows left none all = rw (none, all) (record {
  within = omega arith;
  lays = λ more end h. subst (λ (pc : ℕ). Lays pc code more end) (zero_of (length code)) h;
})
  where
    zero_of : (n : ℕ) → n - n ≡ 0
    zero_of n = omega arith

pub laid_goes_on : (code : List ℕ) (rows : List (ℕ × Written)) (left after : List ℕ) (pc : ℕ) (written : Written) → pc ≡ length code - length left → written_at pc left ≡ Some (written, after)
    → LaidSoFar code rows left → LaidSoFar code (rows ++ (pc, written) ∷ []) after
laid_goes_on code rows left after pc written at read so_far =
    let b = written_takes pc left (written, after) read in
    let shorter = begins_shorter pc left written after b in
    let next : length code - length after ≡ (length code - length left) + (length left - length after) = omega (arith, so_far.within) in
    record {
      within = omega (arith, so_far.within);
      lays = λ more end h.
          let there = subst (λ (p : ℕ). Lays p after more end) next h in
          let here : Lays (length code - length left) left ((pc, written) ∷ more) end = (after, (at, subst (λ (p : ℕ). BeginsWithInsn p left written after) at b, there)) in
          subst (λ (rs : List (ℕ × Written)). Lays 0 code rs end) (sym (append_assoc rows ((pc, written) ∷ []) more)) (so_far.lays ((pc, written) ∷ more) end here);
    }

pub laid_done : (code : List ℕ) (rows : List (ℕ × Written)) (left : List ℕ) → length left ≤ 0 → LaidSoFar code rows left → Lays 0 code rows None
laid_done code rows left none so_far = subst (λ (rs : List (ℕ × Written)). Lays 0 code rs None) (append-nil rows) (so_far.lays [] None (ends left none))
  where
    ends : (left : List ℕ) → length left ≤ 0 → Ends (length code - length left) left None
    ends [] le = AtEnd
    ends (b ∷ bytes) le = absurd (omega arith)

pub no_insn : (pc : ℕ) (bytes : List ℕ) → written_at pc bytes ≡ None → NoInsn pc bytes
no_insn pc bytes e written rest b = let some : written_at pc bytes ≡ Some (written, rest) = written_again pc bytes written rest b in absurd cc

pub laid_breaks : (code : List ℕ) (rows : List (ℕ × Written)) (left : List ℕ) (pc : ℕ) → 0 < length left → pc ≡ length code - length left → written_at pc left ≡ None → LaidSoFar code rows left → Lays 0 code rows (Some pc)
laid_breaks code rows left pc some at read so_far = subst (λ (rs : List (ℕ × Written)). Lays 0 code rs (Some pc)) (append-nil rows) (so_far.lays [] (Some pc) (subst (λ (p : ℕ). Ends p left (Some pc)) at (ends left some (no_insn pc left read))))
  where
    ends : (left : List ℕ) → 0 < length left → NoInsn pc left → Ends pc left (Some pc)
    ends [] lt none = absurd (omega arith)
    ends (b ∷ bytes) lt none = BreaksOff none

-- ---- their offsets

pub lays_rise : (pc : ℕ) (bytes : List ℕ) (rows : List (ℕ × Written)) (end : Option ℕ) → Lays pc bytes rows end → (low : ℕ) → low ≤ pc → rises_from low rows ≡ true
lays_rise pc bytes [] end h low le = refl
lays_rise pc bytes (row ∷ rows) end h low le =
    let rest = h.0 in
    let shorter = begins_shorter pc bytes row.1 rest h.1.1 in
    let here : row.0 ≡ pc = h.1.0 in
    let not_below : leb low row.0 ≡ true = grind (arith, nat_tests) in
    rw not_below (lays_rise (pc + (length bytes - length rest)) rest rows end h.1.2 (row.0 + 1) (omega arith))

pub lays_below : (pc : ℕ) (bytes : List ℕ) (rows : List (ℕ × Written)) (end : Option ℕ) → Lays pc bytes rows end → (q : ℕ) → IsStart rows q → q < pc + length bytes
lays_below pc bytes [] end h q s = absurd cc
lays_below pc bytes (row ∷ rows) end h q s =
    let rest = h.0 in
    let shorter = begins_shorter pc bytes row.1 rest h.1.1 in
    let here : row.0 ≡ pc = h.1.0 in
    by (eqb row.0 q) refl s (λ s. let more = lays_below (pc + (length bytes - length rest)) rest rows end h.1.2 q s in omega arith)
  where
    below : (start q pc left all : ℕ) → start ≡ q → start ≡ pc → left < all → q < pc + all
    below start q pc left all same here shorter = omega arith

    by : (b : Bool) → eqb row.0 q ≡ b → IsSome (cond b (Some row.1) (at_offset q rows)) → (IsStart rows q → q < pc + length bytes) → q < pc + length bytes
    by true e s more = let same : row.0 ≡ q = grind (arith, nat_tests) in below row.0 q pc (length h.0) (length bytes) same h.1.0 (begins_shorter pc bytes row.1 h.0 h.1.1)
    by false e s more = more s

pub laid_rows : (code : List ℕ) (rows : List (ℕ × Written)) (end : Option ℕ) → length code ≤ 65535 → Lays 0 code rows end → AreRows rows
laid_rows code rows end few h = record {
  rises = lays_rise 0 code rows end h 0 (omega arith);
  below = λ pc s. let lt = lays_below 0 code rows end h pc s in omega arith;
}

-- ---- one way

begins_one : (pc : ℕ) (bytes : List ℕ) (w v : Written) (x y : List ℕ) → BeginsWithInsn pc bytes w x → BeginsWithInsn pc bytes v y → (w ≡ v) × (x ≡ y)
begins_one pc bytes w v x y b c =
    let one : Written × List ℕ = (w, x) in
    let other : Written × List ℕ = (v, y) in
    let same : one ≡ other = some_is one other (sym (written_again pc bytes w x b) ∙ written_again pc bytes v y c) in
    (ap (λ (p : Written × List ℕ). p.0) same, ap (λ (p : Written × List ℕ). p.1) same)

ends_one : (pc : ℕ) (bytes : List ℕ) (end end' : Option ℕ) → Ends pc bytes end → Ends pc bytes end' → end ≡ end'
ends_one pc [] end end' AtEnd AtEnd = refl
ends_one pc (b ∷ bytes) end end' (BreaksOff n) (BreaksOff m) = refl

no_more : (pc : ℕ) (bytes : List ℕ) (end : Option ℕ) (written : Written) (rest : List ℕ) → Ends pc bytes end → BeginsWithInsn pc bytes written rest → ⊥
no_more pc bytes end written rest AtEnd b = let lt = begins_shorter pc bytes written rest b in omega arith
no_more pc bytes end written rest (BreaksOff none) b = none written rest b

pub lays_agree : (pc : ℕ) (bytes : List ℕ) (rows rows' : List (ℕ × Written)) (end end' : Option ℕ) → Lays pc bytes rows end → Lays pc bytes rows' end' → (rows ≡ rows') × (end ≡ end')
lays_agree pc bytes [] [] end end' h k = (refl, ends_one pc bytes end end' h k)
lays_agree pc bytes [] (row ∷ rows) end end' h k = absurd (no_more pc bytes end row.1 k.0 h k.1.1)
lays_agree pc bytes (row ∷ rows) [] end end' h k = absurd (no_more pc bytes end' row.1 h.0 k h.1.1)
lays_agree pc bytes (row ∷ rows) (row' ∷ rows') end end' h k =
    let same = begins_one pc bytes row.1 row'.1 h.0 k.0 h.1.1 k.1.1 in
    let there = subst (λ (r : List ℕ). Lays (pc + (length bytes - length r)) r rows' end') (sym same.1) k.1.2 in
    let more = lays_agree (pc + (length bytes - length h.0)) h.0 rows rows' end end' h.1.2 there in
    let first : row ≡ row' = pairs row row' (h.1.0 ∙ sym k.1.0) same.0 in
    (ap (λ (r : ℕ × Written). r ∷ rows) first ∙ ap (λ (rs : List (ℕ × Written)). row' ∷ rs) more.0, more.1)
  where
    pairs : (a b : ℕ × Written) → a.0 ≡ b.0 → a.1 ≡ b.1 → a ≡ b
    pairs a b e f = ap (λ (n : ℕ). (n, a.1)) e ∙ ap (λ (w : Written). (b.0, w)) f

-- what is left behind an instruction that was read is shorter
pub read_shorter : (pc : ℕ) (left : List ℕ) (written : Written) (after : List ℕ) → written_at pc left ≡ Some (written, after) → length after < length left
read_shorter pc left written after e = begins_shorter pc left written after (written_takes pc left (written, after) e)
