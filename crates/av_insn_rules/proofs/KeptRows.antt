-- The instructions of a code that keep a rule, up to the first one that does not.
use Rattle.std.proofs.Common.{◌≡◌, ℕ, ◌<◌, ◌≤◌, Bool, true, false, List, length, get_or, Some, IsTrue, sym, ◌∙◌, subst}
use Rattle.jv_types.specs.Bodies.{at_offset}
use Rattle.jv_types.specs.declared.body.Body.{Body}
use Rattle.jv_types.specs.declared.instruction.Insn.{Insn}
use Rattle.av_conditions.proofs.Standing.{HoldsBefore, holds_of_all, holds_of_earlier, rises_of, stands_at}
use Rattle.av_insn_rules.specs.InsnRules.{Everywhere, IsFirstWithout}

-- the instruction of a row keeps it
abbrev pub KeptRow : (Insn → Type 0) → ℕ × Insn → Type 0
KeptRow P row = P row.1

pub first_is : (P : Insn → Type 0) (body : Body) (insns : List (ℕ × Insn)) (n : ℕ) (row : ℕ × Insn) (b : Bool) → insns ≡ body.insns → n < length insns → row ≡ get_or insns n row
    → (P row.1 → IsTrue b) → b ≡ false → HoldsBefore (KeptRow P) insns n → IsFirstWithout P body row.0
first_is P body insns n row b e here is says refused before =
    let rises = rises_of body insns e in
    record {
      insn = row.1;
      stands = subst (λ (l : List (ℕ × Insn)). at_offset row.0 l ≡ Some row.1) e (stands_at insns n row rises here is);
      lacks = λ kept. let t : b ≡ true = says kept in let clash : false ≡ true = sym refused ∙ t in absurd cc;
      before = λ start other lt at.
          holds_of_earlier (KeptRow P) insns n row rises here is before start other lt (subst (λ (l : List (ℕ × Insn)). at_offset start l ≡ Some other) (sym e) at);
    }

pub all_are : (P : Insn → Type 0) (body : Body) (insns : List (ℕ × Insn)) (n : ℕ) → insns ≡ body.insns → length insns ≤ n → HoldsBefore (KeptRow P) insns n → Everywhere P body
all_are P body insns n e past before pc insn at =
    holds_of_all (KeptRow P) insns n (rises_of body insns e) past before pc insn (subst (λ (l : List (ℕ × Insn)). at_offset pc l ≡ Some insn) (sym e) at)
