-- Where instructions start that take few bytes each.
use Rattle.std.proofs.Common.{◌≡◌, ℕ, zero, suc, ◌+◌, ◌*◌, ◌≤◌, List, [], ◌∷◌, length, sym, subst, ◌∙◌, arith}
use Rattle.std.specs.Prelude.{FitsSigned}
use Rattle.std.specs.Int.{w16}
use Rattle.std.proofs.lemmas.Int.{ints}
use Rattle.jv_table.specs.declared.code_tables.Form.{Form}
use Rattle.jv_table.specs.declared.code_tables.Form.TheVariants as forms
use Rattle.jv_insn.specs.Encoding.{form_of, jump_size, branch_offset}
use Rattle.av_asm.specs.declared.step.Step.{Step}
use Rattle.av_asm.specs.declared.step.Step.TheVariants.{Put, Open, Landed}
use Rattle.av_asm.specs.Planning.{start_at, step_size, starts_from}
use Rattle.av_fitting.specs.Fitting.{IsFitStep, AreFit}
use Rattle.av_fitting.proofs.Anywhere.{form_known, fit_size}

step_few : (max_locals count number pc : ℕ) (step : Step) → IsFitStep max_locals count number step → step_size pc step ≤ 6
step_few max_locals count number pc (Put insn) h = fit_size max_locals [] pc 0 insn h.fits
step_few max_locals count number pc (Open op) h = absurd h
step_few max_locals count number pc (Landed op target) h =
    let is : form_of op ≡ forms.Jump2 = form_known op h.row h.known ∙ h.is_short in
    let P : Form → Type 0 = λ (form : Form). 1 + jump_size form ≤ 6 in
    subst P (sym is) (omega arith)

-- one instruction starts at most so far behind another
pub starts_near : (max_locals count number pc : ℕ) (steps : List Step) → AreFit max_locals count number steps → (n : ℕ) → n ≤ length steps → start_at (starts_from pc steps) n ≤ pc + 6 * n
starts_near max_locals count number pc [] h zero le = omega arith
starts_near max_locals count number pc [] h (suc n) le = absurd (omega arith)
starts_near max_locals count number pc (step ∷ steps) h zero le = omega arith
starts_near max_locals count number pc (step ∷ steps) h (suc n) le =
    let few = step_few max_locals count number pc step h.0 in
    let more = starts_near max_locals count (number + 1) (pc + step_size pc step) steps h.1 n (omega arith) in
    omega (arith, few, more)

-- a distance that two bytes say
pub fits_near : (pc target : ℕ) → pc ≤ target → target ≤ pc + 30006 → FitsSigned w16 (branch_offset pc target)
fits_near pc target le near = omega (arith, ints)
