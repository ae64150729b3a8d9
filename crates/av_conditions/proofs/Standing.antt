-- Instructions by their places and by their offsets.
use Rattle.std.proofs.Common.{◌≡◌, ℕ, ◌+◌, ◌<◌, ◌≤◌, Bool, true, false, List, length, get_or, Option, Some, None, IsTrue, refl, sym, ◌∙◌, ap, subst, inl, inr, arith}
use Rattle.std.proofs.lemmas.Bool.{cases_lt}
use Rattle.std.proofs.lemmas.List.{get_or_default}
use Rattle.jv_types.specs.Bodies.{rises_from, at_offset, IsStart}
use Rattle.jv_types.specs.declared.body.Body.{Body}
use Rattle.jv_types.specs.declared.instruction.Insn.{Insn}
use Rattle.jv_types.specs.declared.shapes.Shape.{Shape}
use Rattle.jv_types.proofs.Starts.{starts_rise, at_offset-at, start_place}
use Rattle.av_conditions.specs.RightReferences.{HasRightReferences, IsFirstWrong, IsRightInsn}

-- this holds of the instructions at the first places
pub record HoldsBefore (P : ℕ × Insn → Type 0) (insns : List (ℕ × Insn)) (n : ℕ) : Type 0 where
  pub each : (k : ℕ) (row : ℕ × Insn) → k < n → k < length insns → row ≡ get_or insns k row → P row

pub holds_none : (P : ℕ × Insn → Type 0) (insns : List (ℕ × Insn)) → HoldsBefore P insns 0
holds_none P insns = record { each = λ k row lt within is. absurd (omega arith) }

pub holds_more : (P : ℕ × Insn → Type 0) (insns : List (ℕ × Insn)) (n : ℕ) (row : ℕ × Insn) → n < length insns → row ≡ get_or insns n row → P row → HoldsBefore P insns n
    → HoldsBefore P insns (n + 1)
holds_more P insns n row here is holds before = record {
  each = λ k other lt within at. elim (cases_lt k n) [
    | inl l ↦ before.each k other l within at
    | inr g ↦
        let same : k ≡ n = omega arith in
        let one : other ≡ row = at ∙ ap (λ (j : ℕ). get_or insns j other) same ∙ get_or_default insns n other row here ∙ sym is in
        subst P (sym one) holds
  ];
}

-- what stands at an offset stands at a place
pub record IsPlaced (insns : List (ℕ × Insn)) (pc : ℕ) (insn : Insn) : Type 0 where
  pub place : ℕ
  pub within : place < length insns
  pub row : ℕ × Insn
  pub is : row ≡ get_or insns place row
  pub starts : row.0 ≡ pc
  pub has : row.1 ≡ insn

placed : (insns : List (ℕ × Insn)) (pc : ℕ) (insn : Insn) → IsTrue (rises_from 0 insns) → at_offset pc insns ≡ Some insn → IsPlaced insns pc insn
placed insns pc insn rises at =
    let starts : IsStart insns pc = rw at refl in
    let stands = start_place pc insns starts in
    let row : ℕ × Insn = get_or insns stands.place (pc, insn) in
    let own : get_or insns stands.place row ≡ row = get_or_default insns stands.place row (pc, insn) stands.within in
    let begins : row.0 ≡ pc = stands.start (pc, insn) in
    let found : at_offset pc insns ≡ Some row.1 = at_offset-at 0 pc insns rises stands.place (pc, insn) stands.within begins in
    let both : Some row.1 ≡ Some insn = sym found ∙ at in
    record { place = stands.place; within = stands.within; row = row; is = sym own; starts = begins; has = cc }

-- it holds of what stands at an offset
at_its_offset : (P : ℕ × Insn → Type 0) (pc : ℕ) (insn : Insn) (row : ℕ × Insn) → row.0 ≡ pc → row.1 ≡ insn → P row → P (pc, insn)
at_its_offset P pc insn row starts has holds = subst (λ (i : Insn). P (pc, i)) has (subst (λ (p : ℕ). P (p, row.1)) starts holds)

-- it holds of all instructions
pub holds_of_all : (P : ℕ × Insn → Type 0) (insns : List (ℕ × Insn)) (n : ℕ) → IsTrue (rises_from 0 insns) → length insns ≤ n → HoldsBefore P insns n
    → (pc : ℕ) (insn : Insn) → at_offset pc insns ≡ Some insn → P (pc, insn)
holds_of_all P insns n rises past before pc insn at =
    let p = placed insns pc insn rises at in
    let lt : p.place < n = omega (arith, p.within) in
    at_its_offset P pc insn p.row p.starts p.has (before.each p.place p.row lt p.within p.is)

-- it holds of those before the one at a place
pub holds_of_earlier : (P : ℕ × Insn → Type 0) (insns : List (ℕ × Insn)) (n : ℕ) (row : ℕ × Insn) → IsTrue (rises_from 0 insns) → n < length insns → row ≡ get_or insns n row
    → HoldsBefore P insns n → (start : ℕ) (other : Insn) → start < row.0 → at_offset start insns ≡ Some other → P (start, other)
holds_of_earlier P insns n row rises here is before start other lt at =
    let p = placed insns start other rises at in
    elim (cases_lt p.place n) [
      | inl l ↦ at_its_offset P start other p.row p.starts p.has (before.each p.place p.row l p.within p.is)
      | inr g ↦
          let low : n ≤ p.place = omega arith in
          let rise = starts_rise 0 insns rises n p.place row low p.within in
          let mine : (get_or insns n row).0 ≡ row.0 = ap (λ (x : ℕ × Insn). x.0) (sym is) in
          let its : (get_or insns p.place row).0 ≡ start = ap (λ (x : ℕ × Insn). x.0) (get_or_default insns p.place row p.row p.within ∙ sym p.is) ∙ p.starts in
          absurd (omega (arith, rise, mine, its))
    ]

-- the one at a place stands at its offset
pub stands_at : (insns : List (ℕ × Insn)) (n : ℕ) (row : ℕ × Insn) → IsTrue (rises_from 0 insns) → n < length insns → row ≡ get_or insns n row → at_offset row.0 insns ≡ Some row.1
stands_at insns n row rises here is =
    let mine : (get_or insns n row).0 ≡ row.0 = ap (λ (x : ℕ × Insn). x.0) (sym is) in
    at_offset-at 0 row.0 insns rises n row here mine ∙ ap (λ (x : ℕ × Insn). Some x.1) (sym is)

-- ---- a code

-- the instructions of a code rise
pub rises_of : (body : Body) (insns : List (ℕ × Insn)) → insns ≡ body.insns → IsTrue (rises_from 0 insns)
rises_of body insns e = subst (λ (l : List (ℕ × Insn)). IsTrue (rises_from 0 l)) (sym e) body.rising

-- the instruction of a row is right
abbrev pub IsRightRow : List Shape → ℕ × Insn → Type 0
IsRightRow w row = IsRightInsn w row.1

pub first_is : (w : List Shape) (body : Body) (insns : List (ℕ × Insn)) (n : ℕ) (row : ℕ × Insn) (b : Bool) → insns ≡ body.insns → n < length insns → row ≡ get_or insns n row
    → (IsRightInsn w row.1 → IsTrue b) → b ≡ false → HoldsBefore (IsRightRow w) insns n → IsFirstWrong w body row.0
first_is w body insns n row b e here is says refused before =
    let rises = rises_of body insns e in
    record {
      insn = row.1;
      stands = subst (λ (l : List (ℕ × Insn)). at_offset row.0 l ≡ Some row.1) e (stands_at insns n row rises here is);
      wrong = λ right. let t : b ≡ true = says right in let clash : false ≡ true = sym refused ∙ t in absurd cc;
      before = λ start other lt at.
          holds_of_earlier (IsRightRow w) insns n row rises here is before start other lt (subst (λ (l : List (ℕ × Insn)). at_offset start l ≡ Some other) (sym e) at);
    }

pub all_are : (w : List Shape) (body : Body) (insns : List (ℕ × Insn)) (n : ℕ) → insns ≡ body.insns → length insns ≤ n → HoldsBefore (IsRightRow w) insns n → HasRightReferences w body
all_are w body insns n e past before = record {
  each = λ pc insn at. holds_of_all (IsRightRow w) insns n (rises_of body insns e) past before pc insn (subst (λ (l : List (ℕ × Insn)). at_offset pc l ≡ Some insn) (sym e) at);
}
