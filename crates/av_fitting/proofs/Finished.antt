-- What fits may be finished.
use Rattle.std.proofs.Common.{◌≡◌, ℕ, suc, ◌+◌, ◌-◌, ◌<◌, ◌≤◌, false, ◌==◌, ◌⊎◌, List, [], ◌∷◌, ◌++◌, length, map, refl, sym, ap, subst, ◌∙◌, inl, inr, arith}
use Rattle.std.specs.List.{AllByRecursion, zip, flat_map}
use Rattle.std.proofs.lemmas.List.Elements.{All-weaker}
use Rattle.jv_table.specs.declared.code_tables.Form.{Form}
use Rattle.jv_table.specs.declared.code_tables.Form.TheVariants as forms
use Rattle.jv_table.specs.declared.ops.TheConstants.{LDC}
use Rattle.jv_types.specs.Bodies.{arg_targets}
use Rattle.jv_types.specs.declared.instruction.Arg.TheVariants as args
use Rattle.jv_types.specs.declared.instruction.Insn.{Insn}
use Rattle.jv_types.specs.declared.body.Handler.{Handler}
use Rattle.jv_types.specs.declared.frames.VType.{VType, Top, Integer, Float, Long, Double, Null, UninitThis, Uninit, Class, PrimArray, Array'}
use Rattle.jv_types.specs.declared.frames.Frame.{Frame}
use Rattle.jv_pool.specs.declared.item.PoolItem.{PoolItem}
use Rattle.jv_insn.specs.Building.{FitsForm}
use Rattle.jv_insn.specs.Meanings.{has_local}
use Rattle.jv_insn.specs.Encoding.{is_left_out, StandsNear, MayStand}
use Rattle.jv_insn.proofs.Standing.{may_stand}
use Rattle.jv_frames.specs.Maps.{IsMade}
use Rattle.av_asm.specs.declared.step.Step.{Step}
use Rattle.av_asm.specs.declared.step.Step.TheVariants.{Put, Open, Landed}
use Rattle.av_asm.specs.declared.step.Span.{Span}
use Rattle.av_asm.specs.Built.{Built}
use Rattle.av_asm.specs.Planning.{start_at, step_size, jump_to, starts_from, placed_insn, insns_of, handler_of, is_among, frames_where, targets_in, target_frames, plan_of}
use Rattle.av_asm.specs.Finishing.{HasLanded, IsFullFrame, MayFinish}
use Rattle.av_asm.proofs.Offsets.{numbered_start, starts_rise}
use Rattle.av_asm.proofs.Planned.{filtered}
use Rattle.av_fitting.specs.Fitting.{IsFitBranch, AreFit, IsPut, LeadsNowhere, IsFit}
use Rattle.av_fitting.proofs.Anywhere.{fits_anywhere}
use Rattle.av_fitting.proofs.Near.{starts_near, fits_near}

-- ---- each branch has landed

landed : (max_locals count number : ℕ) (steps : List Step) → AreFit max_locals count number steps → AllByRecursion HasLanded steps
landed max_locals count number [] h = tt
landed max_locals count number (Put insn ∷ steps) h = (tt, landed max_locals count (number + 1) steps h.1)
landed max_locals count number (Open op ∷ steps) h = absurd h.0
landed max_locals count number (Landed op target ∷ steps) h = (tt, landed max_locals count (number + 1) steps h.1)

-- ---- instructions at their offsets

-- the instructions from a number on, the first of which starts at an offset, are the last ones of all
pub record AreLast (all : List Step) (number pc : ℕ) (steps : List Step) : Type 0 where
  pub starts : (k : ℕ) → start_at (starts_from 0 all) (number + k) ≡ start_at (starts_from pc steps) k
  pub count : length all ≡ number + length steps

all_last : (all : List Step) → AreLast all 0 0 all
all_last all = record { starts = λ k. ap (start_at (starts_from 0 all)) (omega arith); count = omega arith }

next_last : (all : List Step) (number pc : ℕ) (step : Step) (steps : List Step) → AreLast all number pc (step ∷ steps) → AreLast all (number + 1) (pc + step_size pc step) steps
next_last all number pc step steps h = record {
  starts = λ k. ap (start_at (starts_from 0 all)) (omega arith) ∙ h.starts (suc k);
  count = omega (arith, h.count);
}

branch_stands : (max_locals : ℕ) (all : List Step) (number pc op target : ℕ) (steps : List Step) → AreLast all number pc (Landed op target ∷ steps)
    → AreFit max_locals (length all) number (Landed op target ∷ steps) → IsFitBranch (length all) number op target
    → MayStand max_locals (insns_of (starts_from 0 all) all) pc (jump_to op (start_at (starts_from 0 all) target))
branch_stands max_locals all number pc op target steps last fit h =
    let starts = starts_from 0 all in
    let insns = insns_of starts all in
    let to = start_at starts target in
    let forward : number < target = h.forward in
    let there : target < length all = h.there in
    let near : target ≤ number + 5000 = h.near in
    let begins : start_at starts (number + 0) ≡ pc = last.starts 0 in
    let here : start_at starts number ≡ pc = ap (start_at starts) (omega arith) ∙ begins in
    let rises : start_at starts number < to = starts_rise 0 all number target forward (omega arith) in
    let distance = target - number in
    let behind : start_at starts (number + distance) ≡ start_at (starts_from pc (Landed op target ∷ steps)) distance = last.starts distance in
    let same : start_at starts (number + distance) ≡ to = ap (start_at starts) (omega arith) in
    let within = starts_near max_locals (length all) number pc (Landed op target ∷ steps) fit distance (omega (arith, last.count)) in
    let P : Form → Type 0 = λ (form : Form). FitsForm insns pc op form (args.Jump to) in
    let operands : P forms.Jump2 = (to, refl, numbered_start starts 0 all target there, fits_near pc to (omega (arith, here, rises)) (omega (arith, within, behind, same))) in
    may_stand max_locals insns pc (jump_to op to) (record {
      row = h.row;
      known = h.known;
      operands = subst P (sym h.is_short) operands;
      local = λ is. let other : has_local op ≡ false = h.no_local in absurd cc;
    })

each_stands : (max_locals : ℕ) (all : List Step) (number pc : ℕ) (steps : List Step) → AreLast all number pc steps → AreFit max_locals (length all) number steps
    → AllByRecursion (λ (row : ℕ × Insn). MayStand max_locals (insns_of (starts_from 0 all) all) row.0 row.1) (map (placed_insn (starts_from 0 all)) (zip (starts_from pc steps) steps))
each_stands max_locals all number pc [] last fit = tt
each_stands max_locals all number pc (Put insn ∷ steps) last fit =
    let insns = insns_of (starts_from 0 all) all in (
      may_stand max_locals insns pc insn (fits_anywhere max_locals insns pc insn fit.0.fits),
      each_stands max_locals all (number + 1) (pc + step_size pc (Put insn)) steps (next_last all number pc (Put insn) steps last) fit.1,
    )
each_stands max_locals all number pc (Open op ∷ steps) last fit = absurd fit.0
each_stands max_locals all number pc (Landed op target ∷ steps) last fit = (
  branch_stands max_locals all number pc op target steps last fit fit.0,
  each_stands max_locals all (number + 1) (pc + step_size pc (Landed op target)) steps (next_last all number pc (Landed op target) steps last) fit.1,
)

-- ---- no operand is left out, and there is no ldc

whole : (max_locals count number : ℕ) (starts pcs : List ℕ) (steps : List Step) → AreFit max_locals count number steps
    → AllByRecursion (λ (row : ℕ × Insn). is_left_out row.1.arg ≡ false) (map (placed_insn starts) (zip pcs steps))
whole max_locals count number starts [] steps h = tt
whole max_locals count number starts (pc ∷ pcs) [] h = tt
whole max_locals count number starts (pc ∷ pcs) (Put insn ∷ steps) h = (h.0.whole, whole max_locals count (number + 1) starts pcs steps h.1)
whole max_locals count number starts (pc ∷ pcs) (Open op ∷ steps) h = absurd h.0
whole max_locals count number starts (pc ∷ pcs) (Landed op target ∷ steps) h = (refl, whole max_locals count (number + 1) starts pcs steps h.1)

not_near : (pool : List PoolItem) (insn : Insn) → (insn.op == LDC) ≡ false → StandsNear pool insn
not_near pool insn other is = absurd cc

near : (pool : List PoolItem) (max_locals count number : ℕ) (starts pcs : List ℕ) (steps : List Step) → AreFit max_locals count number steps
    → AllByRecursion (λ (row : ℕ × Insn). StandsNear pool row.1) (map (placed_insn starts) (zip pcs steps))
near pool max_locals count number starts [] steps h = tt
near pool max_locals count number starts (pc ∷ pcs) [] h = tt
near pool max_locals count number starts (pc ∷ pcs) (Put insn ∷ steps) h = (not_near pool insn h.0.no_constant, near pool max_locals count (number + 1) starts pcs steps h.1)
near pool max_locals count number starts (pc ∷ pcs) (Open op ∷ steps) h = absurd h.0
near pool max_locals count number starts (pc ∷ pcs) (Landed op target ∷ steps) h =
    (not_near pool (jump_to op (start_at starts target)) h.0.no_constant, near pool max_locals count (number + 1) starts pcs steps h.1)

-- ---- frames

made_anywhere : (insns : List (ℕ × Insn)) (type : VType) → IsMade [] type → IsMade insns type
made_anywhere insns Top h = tt
made_anywhere insns Integer h = tt
made_anywhere insns Float h = tt
made_anywhere insns Long h = tt
made_anywhere insns Double h = tt
made_anywhere insns Null h = tt
made_anywhere insns UninitThis h = tt
made_anywhere insns (Uninit pc) h = let none = h.stands in absurd cc
made_anywhere insns (Class name) h = tt
made_anywhere insns (PrimArray prim) h = tt
made_anywhere insns (Array' shape items) h = tt

full_anywhere : (max_locals : ℕ) (insns : List (ℕ × Insn)) (frame : Frame) → IsFullFrame max_locals [] frame → IsFullFrame max_locals insns frame
full_anywhere max_locals insns frame h = record {
  locals = h.locals;
  stack = h.stack;
  is = h.is;
  fits = h.fits;
  locals_mapped = h.locals_mapped;
  stack_mapped = h.stack_mapped;
  locals_made = All-weaker (IsMade []) (IsMade insns) (made_anywhere insns) h.locals h.locals_made;
  stack_made = All-weaker (IsMade []) (IsMade insns) (made_anywhere insns) h.stack h.stack_made;
}

frames_full : (max_locals : ℕ) (insns : List (ℕ × Insn)) (pcs : List ℕ) (frames : List Frame) → AllByRecursion (IsFullFrame max_locals []) frames
    → AllByRecursion (λ (row : ℕ × Frame). IsFullFrame max_locals insns row.1) (zip pcs frames)
frames_full max_locals insns [] frames h = tt
frames_full max_locals insns (pc ∷ pcs) [] h = tt
frames_full max_locals insns (pc ∷ pcs) (frame ∷ frames) h = (full_anywhere max_locals insns frame h.0, frames_full max_locals insns pcs frames h.1)

no_targets : (max_locals count number : ℕ) (starts pcs : List ℕ) (steps : List Step) → AreFit max_locals count number steps → AllByRecursion IsPut steps
    → flat_map (λ (row : ℕ × Insn). arg_targets row.1.arg) (map (placed_insn starts) (zip pcs steps)) ≡ []
no_targets max_locals count number starts [] steps h put = refl
no_targets max_locals count number starts (pc ∷ pcs) [] h put = refl
no_targets max_locals count number starts (pc ∷ pcs) (Put insn ∷ steps) h put =
    let rest = no_targets max_locals count (number + 1) starts pcs steps h.1 put.1 in
    let rows = flat_map (λ (row : ℕ × Insn). arg_targets row.1.arg) (map (placed_insn starts) (zip pcs steps)) in
    ap (λ (targets : List ℕ). targets ++ rows) h.0.stays ∙ rest
no_targets max_locals count number starts (pc ∷ pcs) (Open op ∷ steps) h put = absurd put.0
no_targets max_locals count number starts (pc ∷ pcs) (Landed op target ∷ steps) h put = absurd put.0

none_among : (rows : List (ℕ × Frame)) → frames_where (is_among []) rows ≡ []
none_among [] = refl
none_among (row ∷ rows) = none_among rows

no_handlers : (starts : List ℕ) (spans : List Span) → spans ≡ [] → map (λ (handler : Handler). handler.target) (map (handler_of starts) spans) ≡ []
no_handlers starts spans e = ap (λ (s : List Span). map (λ (handler : Handler). handler.target) (map (handler_of starts) s)) e

maps : (built : Built) → IsFit built → AllByRecursion (λ (row : ℕ × Frame). IsFullFrame built.words (plan_of built).insns row.1) (target_frames (plan_of built))
maps built h = by h.frames
  where
    by : (AllByRecursion (IsFullFrame built.words []) built.frames ⊎ LeadsNowhere built) → AllByRecursion (λ (row : ℕ × Frame). IsFullFrame built.words (plan_of built).insns row.1) (target_frames (plan_of built))
    by (inl full) =
        filtered (λ (row : ℕ × Frame). IsFullFrame built.words (plan_of built).insns row.1) (λ (row : ℕ × Frame). is_among (targets_in (plan_of built).insns (plan_of built).handlers) row.0)
        (plan_of built).frames (frames_full built.words (plan_of built).insns (starts_from 0 built.steps) built.frames full)
    by (inr nowhere) =
        let jumps = no_targets built.words (length built.steps) 0 (starts_from 0 built.steps) (starts_from 0 built.steps) built.steps h.steps nowhere.steps in
        let handled = no_handlers (starts_from 0 built.steps) built.spans nowhere.spans in
        let targets : targets_in (plan_of built).insns (plan_of built).handlers ≡ [] =
        ap (λ (front : List ℕ). front ++ map (λ (handler : Handler). handler.target) (plan_of built).handlers) jumps ∙ handled in
        let none : target_frames (plan_of built) ≡ [] = ap (λ (ts : List ℕ). frames_where (is_among ts) (plan_of built).frames) targets ∙ none_among (plan_of built).frames in
        let P : List (ℕ × Frame) → Type 0 = λ (rows : List (ℕ × Frame)). AllByRecursion (λ (row : ℕ × Frame). IsFullFrame built.words (plan_of built).insns row.1) rows in
        subst P (sym none) tt

-- ---- all

pub may_finish : (pool : List PoolItem) (built : Built) → IsFit built → MayFinish pool built
may_finish pool built h =
    let starts = starts_from 0 built.steps in record {
      landed = landed built.words (length built.steps) 0 built.steps h.steps;
      led = h.led;
      each = each_stands built.words built.steps 0 0 built.steps (all_last built.steps) h.steps;
      whole = whole built.words (length built.steps) 0 starts starts built.steps h.steps;
      near = near pool built.words (length built.steps) 0 starts starts built.steps h.steps;
      maps = maps built h;
      stack = h.stack;
      words = h.words;
    }
