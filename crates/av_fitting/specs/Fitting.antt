-- Facts of single instructions by which what was put into a builder of code may be finished (JVMS 4.9.1). They speak of
-- instructions by their numbers, and name no offset, no pool and no bytes.
use Rattle.std.specs.Prelude.{◌≡◌, ◌<◌, ◌≤◌, ◌+◌, ◌==◌, ◌⊎◌, ℕ, false, List, [], ◌∷◌, length, Some}
use Rattle.std.specs.List.{AllByRecursion}
use Rattle.jv_table.specs.CodeRows.{OpForm}
use Rattle.jv_table.specs.declared.code_tables.Form.TheVariants as forms
use Rattle.jv_table.specs.declared.ops.TheConstants.{LDC}
use Rattle.jv_types.specs.Bodies.{arg_targets}
use Rattle.jv_types.specs.declared.instruction.Insn.{Insn}
use Rattle.jv_insn.specs.Effects.{op_row}
use Rattle.jv_insn.specs.Meanings.{has_local}
use Rattle.jv_insn.specs.Encoding.{is_left_out}
use Rattle.jv_insn.specs.Building.{FitsCode}
use Rattle.av_asm.specs.declared.step.Step.{Step}
use Rattle.av_asm.specs.declared.step.Step.TheVariants.{Put, Open, Landed}
use Rattle.av_asm.specs.declared.step.Span.{Span}
use Rattle.av_asm.specs.Built.{Built}
use Rattle.av_asm.specs.Planning.{most_words}
use Rattle.av_asm.specs.Finishing.{IsFullFrame}

-- ---- instructions

-- no jump, no ldc, and none whose operands are left out: it fits a code wherever it stands
pub record IsFitInsn (max_locals : ℕ) (insn : Insn) : Type 0 where
  pub fits : FitsCode max_locals [] 0 insn
  pub whole : is_left_out insn.arg ≡ false
  pub stays : arg_targets insn.arg ≡ []
  pub no_constant : (insn.op == LDC) ≡ false

-- a branch with an offset of two bytes, by its number, to a later instruction that isn't far
pub record IsFitBranch (count number op target : ℕ) : Type 0 where
  pub row : OpForm
  pub known : op_row op ≡ Some row
  pub is_short : row.form ≡ forms.Jump2
  pub forward : number < target
  pub there : target < count
  pub near : target ≤ number + 5000
  pub no_local : has_local op ≡ false
  pub no_constant : (op == LDC) ≡ false

-- an instruction by its number, among so many
abbrev pub IsFitStep : ℕ → ℕ → ℕ → Step → Type 0
IsFitStep max_locals count number (Put insn) = IsFitInsn max_locals insn
IsFitStep max_locals count number (Open op) = ⊥
IsFitStep max_locals count number (Landed op target) = IsFitBranch count number op target

-- instructions, the first of which has this number
abbrev pub AreFit : ℕ → ℕ → ℕ → List Step → Type 0
AreFit max_locals count number [] = Unit {0}
AreFit max_locals count number (step ∷ steps) = IsFitStep max_locals count number step × AreFit max_locals count (number + 1) steps

-- ---- what was put

-- an instruction as it is, no branch
abbrev pub IsPut : Step → Type 0
IsPut (Put insn) = Unit {0}
IsPut (Open op) = ⊥
IsPut (Landed op target) = ⊥

-- nothing leads anywhere: there is no branch and no handler
pub record LeadsNowhere (built : Built) : Type 0 where
  pub steps : AllByRecursion IsPut built.steps
  pub spans : built.spans ≡ []

-- Each instruction fits, an instruction stands where each handler leads, each frame is one of a full map without a
-- value that a `new` made, or none is a target, and what has to be counted fits two bytes.
pub record IsFit (built : Built) : Type 0 where
  pub steps : AreFit built.words (length built.steps) 0 built.steps
  pub led : AllByRecursion (λ (span : Span). span.target < length built.steps) built.spans
  pub frames : AllByRecursion (IsFullFrame built.words []) built.frames ⊎ LeadsNowhere built
  pub stack : most_words built.frames ≤ 65535
  pub words : built.words ≤ 65535
