-- The instructions whose checks were made, in their order, and the handlers beside them.
use Rattle.std.proofs.Common.{◌≡◌, ℕ, ◌<◌, ◌≤◌, Bool, false, List, length, get_or, Option, Some, None, sym, subst, inl, inr, arith}
use Rattle.std.specs.Prelude.{min}
use Rattle.std.proofs.lemmas.Bool.{cases_lt}
use Rattle.jv_lists.proofs.Tests.{value_of}
use Rattle.jv_types.specs.Bodies.{at_offset, IsStart}
use Rattle.jv_types.specs.declared.ids.MethodId.{MethodId}
use Rattle.jv_types.specs.declared.shapes.Shape.{Shape}
use Rattle.jv_types.specs.declared.instruction.Insn.{Insn}
use Rattle.jv_types.specs.declared.body.Body.{Body}
use Rattle.jv_types.specs.declared.frames.Frame.{Frame}
use Rattle.jv_names.proofs.NamedOnce.{given_twice}
use Rattle.jv_typing_laws.proofs.Rows.{starts_by}
use Rattle.av_conditions.proofs.Standing.{HoldsBefore, holds_of_all, holds_of_earlier, stands_at}
use Rattle.jv_verify.specs.Steps.Checking.{IsTypedThere, IsTypedIf, FailsItself, IsCheckedAt, Decides, FailsFirst, FailsHere, unfit, FirstFails, SatisfiesAllAt, FailsSomeAt, IsLeastBad, earlier}

-- the instruction of a row is typed
abbrev pub IsTypedRow : List Shape → MethodId → Body → List (ℕ × Frame) → ℕ × Insn → Type 0
IsTypedRow w method body rows row = IsTypedThere w method body rows row.0 row.1

pub first_fails : (w : List Shape) (method : MethodId) (body : Body) (rows : List (ℕ × Frame)) (n : ℕ) (row : ℕ × Insn) (b : Bool) → n < length body.insns → row ≡ get_or body.insns n row
    → Decides w method body rows row b → b ≡ false → HoldsBefore (IsTypedRow w method body rows) body.insns n → IsLeastBad (IsTypedIf w method body rows) (FailsItself w method body rows) (Some row.0)
first_fails w method body rows n row b here is says refused before = (
  (row.1, stands_at body.insns n row body.rising here is, rw refused at says),
  λ start lt other at. holds_of_earlier (IsTypedRow w method body rows) body.insns n row body.rising here is before start other lt at,
)

pub all_typed : (w : List Shape) (method : MethodId) (body : Body) (rows : List (ℕ × Frame)) (n : ℕ) → length body.insns ≤ n
    → HoldsBefore (IsTypedRow w method body rows) body.insns n → IsLeastBad (IsTypedIf w method body rows) (FailsItself w method body rows) None
all_typed w method body rows n past before = λ pc insn at. holds_of_all (IsTypedRow w method body rows) body.insns n body.rising past before pc insn at

-- ---- the handlers beside them

-- what is typed, and satisfies the handlers, is checked
with_handlers : (w : List Shape) (method : MethodId) (body : Body) (rows : List (ℕ × Frame)) (pc : ℕ) → IsTypedIf w method body rows pc → SatisfiesAllAt w rows body.handlers pc
    → (insn : Insn) → at_offset pc body.insns ≡ Some insn → IsCheckedAt w method body rows pc insn
with_handlers w method body rows pc typed satisfied insn at =
    let h = typed insn at in
    record {
      frame = h.frame;
      stands = h.stands;
      after = h.after;
      typing = h.typing;
      goes = record { falls = h.fits.falls; jumps = h.fits.jumps; throws = λ handler among covers. satisfied handler among h.frame h.stands covers };
    }

-- an instruction that is typed fails by a handler
by_handler : (w : List Shape) (method : MethodId) (body : Body) (rows : List (ℕ × Frame)) (pc : ℕ) (insn : Insn) → IsTypedThere w method body rows pc insn → FailsSomeAt w rows body.handlers pc
    → FailsHere w method body rows pc insn
by_handler w method body rows pc insn h fails =
    unfit h.frame h.after h.stands h.typing (λ goes. fails.2.unfit (rw own (goes.throws fails.0 fails.1 fails.2.covers)))
  where
    own : fails.2.frame ≡ h.frame
    own = given_twice (at_offset pc rows) fails.2.frame h.frame fails.2.stands h.stands

own_first : (w : List Shape) (method : MethodId) (body : Body) (rows : List (ℕ × Frame)) (pc : ℕ) → FailsItself w method body rows pc → ((other : ℕ) → other < pc → IsTypedIf w method body rows other)
    → ((other : ℕ) → other < pc → SatisfiesAllAt w rows body.handlers other) → FailsFirst w method body rows pc
own_first w method body rows pc own typed satisfied = record {
  insn = own.0;
  stands = own.1;
  fails = own.2;
  before = λ start other lt at. with_handlers w method body rows start (typed start lt) (satisfied start lt) other at;
}

handler_first : (w : List Shape) (method : MethodId) (body : Body) (rows : List (ℕ × Frame)) (pc : ℕ) → ((other : ℕ) → IsStart rows other → IsStart body.insns other) → IsTypedIf w method body rows pc
    → FailsSomeAt w rows body.handlers pc → ((other : ℕ) → other < pc → IsTypedIf w method body rows other) → ((other : ℕ) → other < pc → SatisfiesAllAt w rows body.handlers other)
    → FailsFirst w method body rows pc
handler_first w method body rows pc starts here fails typed satisfied =
    let what = value_of (at_offset pc body.insns) (starts pc (starts_by (at_offset pc rows) fails.2.frame fails.2.stands)) in
    record {
      insn = what.0;
      stands = what.1;
      fails = by_handler w method body rows pc what.0 (here what.0 what.1) fails;
      before = λ start other lt at. with_handlers w method body rows start (typed start lt) (satisfied start lt) other at;
    }

-- the earlier of both is the first that fails
pub first_of_both : (w : List Shape) (method : MethodId) (body : Body) (rows : List (ℕ × Frame)) (a b : Option ℕ) → ((pc : ℕ) → IsStart rows pc → IsStart body.insns pc)
    → IsLeastBad (IsTypedIf w method body rows) (FailsItself w method body rows) a → IsLeastBad (SatisfiesAllAt w rows body.handlers) (FailsSomeAt w rows body.handlers) b
    → FirstFails w method body rows (earlier a b)
first_of_both w method body rows None None starts x y = λ pc insn at. with_handlers w method body rows pc (x pc) (y pc) insn at
first_of_both w method body rows (Some a) None starts x y = own_first w method body rows a x.0 x.1 (λ other lt. y other)
first_of_both w method body rows None (Some b) starts x y = handler_first w method body rows b starts (x b) y.0 (λ other lt. x other) y.1
first_of_both w method body rows (Some a) (Some b) starts x y = elim (cases_lt b a) [
  | inl l ↦
      let e : min a b ≡ b = omega arith in
      subst (FailsFirst w method body rows) (sym e) (handler_first w method body rows b starts (x.1 b l) y.0 (λ other lt. x.1 other (omega arith)) y.1)
  | inr g ↦
      let e : min a b ≡ a = omega arith in
      subst (FailsFirst w method body rows) (sym e) (own_first w method body rows a x.0 x.1 (λ other lt. y.1 other (omega arith)))
]
