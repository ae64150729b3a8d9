-- The offsets, frames and instructions of a code that may be filed.
use Rattle.std.proofs.Common.{◌≡◌, ℕ, zero, suc, ◌+◌, ◌≤◌, Bool, true, false, cond, eqb, List, [], ◌∷◌, ◌++◌, length, map, Contains, Some, refl, sym, ap, subst, ◌∙◌, arith}
use Rattle.std.specs.List.{AllByRecursion, zip, filter}
use Rattle.std.proofs.lemmas.Bool.{false≢true}
use Rattle.std.proofs.lemmas.Bool.Decides.{nat_tests}
use Rattle.std.proofs.lemmas.List.Elements.{recursion_from_All}
use Rattle.jv_lists.proofs.Among.{is_first, is_later}
use Rattle.jv_types.specs.Bodies.{at_offset}
use Rattle.jv_types.specs.declared.instruction.Insn.{Insn}
use Rattle.jv_types.specs.declared.frames.VType.{VType, Top}
use Rattle.jv_types.specs.declared.frames.Frame.{Frame}
use Rattle.jv_insn.specs.Layouts.{head_text}
use Rattle.jv_insn.specs.Encoding.{form_of, arg_size}
use Rattle.jv_frames.specs.Maps.{IsMade}
use Rattle.av_asm.specs.declared.step.Step.{Step}
use Rattle.av_asm.specs.declared.step.Step.TheVariants.{Put, Open, Landed}
use Rattle.av_asm.specs.Mapping.{IsMapped, is_wide, values_from, values_of}
use Rattle.av_asm.specs.Planning.{start_at, insn_of, step_size, starts_from, end_from, placed_insn}
use Rattle.av_asm.specs.Finishing.{IsFullFrame}
use Rattle.av_asm.proofs.Offsets.{ends_above}
use Rattle.av_asm.proofs.Values.{tops, each_behind, locals_are, stack_back}
use Rattle.av_read_back.specs.Fileable.{MayName, StepMayName, MayStandInMap}
use Rattle.av_read_back.proofs.Types.{MayPutType}
use Rattle.av_read_back.proofs.Frames.{MayPutFrame}

-- ---- lists

pub each_of : {X : Type 0} (P : X → Type 0) (xs : List X) → ((x : X) → Contains xs x → P x) → AllByRecursion P xs
each_of P [] h = tt
each_of P (x ∷ xs) h = (h x (is_first x xs), each_of P xs (λ y among. h y (is_later x xs y among)))

pub mapped : {X Y : Type 0} (f : X → Y) (P : Y → Type 0) (xs : List X) → AllByRecursion (λ (x : X). P (f x)) xs → AllByRecursion P (map f xs)
mapped f P [] h = tt
mapped f P (x ∷ xs) h = (h.0, mapped f P xs h.1)

pub all_two : {X : Type 0} (P Q R : X → Type 0) → ((x : X) → P x → Q x → R x) → (xs : List X) → AllByRecursion P xs → AllByRecursion Q xs → AllByRecursion R xs
all_two P Q R f [] p q = tt
all_two P Q R f (x ∷ xs) p q = (f x p.0 q.0, all_two P Q R f xs p.1 q.1)

pub filter_count : {X : Type 0} (test : X → Bool) (xs : List X) → length (filter test xs) ≤ length xs
filter_count test [] = omega arith
filter_count {X} test (x ∷ xs) = by (test x) (filter_count test xs)
  where
    by : (b : Bool) → length (filter test xs) ≤ length xs → length (cond b (x ∷ filter test xs) (filter test xs)) ≤ suc (length xs)
    by true le = omega (arith, le)
    by false le = omega (arith, le)

pub zip_count : {X Y : Type 0} (xs : List X) (ys : List Y) → length (zip xs ys) ≤ length ys
zip_count [] ys = omega arith
zip_count (x ∷ xs) [] = omega arith
zip_count (x ∷ xs) (y ∷ ys) = omega (arith, zip_count xs ys)

pub zip_holds : {X Y : Type 0} (P : Y → Type 0) (xs : List X) (ys : List Y) → AllByRecursion P ys → AllByRecursion (λ (pair : X × Y). P pair.1) (zip xs ys)
zip_holds P [] ys h = tt
zip_holds P (x ∷ xs) [] h = tt
zip_holds P (x ∷ xs) (y ∷ ys) h = (h.0, zip_holds P xs ys h.1)

-- ---- offsets

head_some : (wide : Bool) (op n : ℕ) → 1 ≤ length (head_text wide op) + n
head_some true op n = omega arith
head_some false op n = omega arith

step_some : (pc : ℕ) (step : Step) → 1 ≤ step_size pc step
step_some pc step =
    let insn = insn_of [] step in
    head_some insn.wide insn.op (arg_size (form_of insn.op) insn.wide pc insn.arg)

-- a code has no fewer bytes than instructions
pub count_below : (pc : ℕ) (steps : List Step) → pc + length steps ≤ end_from pc steps
count_below pc [] = omega arith
count_below pc (step ∷ steps) = omega (arith, step_some pc step, count_below (pc + step_size pc step) steps)

-- no start is behind its end
pub starts_below : (pc : ℕ) (steps : List Step) (n : ℕ) → start_at (starts_from pc steps) n ≤ end_from pc steps
starts_below pc [] zero = omega arith
starts_below pc [] (suc n) = omega arith
starts_below pc (step ∷ steps) zero = omega (arith, ends_above (pc + step_size pc step) steps)
starts_below pc (step ∷ steps) (suc n) = starts_below (pc + step_size pc step) steps n

-- instructions and frames stand before it
pub placed_below : (limit : ℕ) (all : List ℕ) (pc : ℕ) (steps : List Step) → end_from pc steps ≤ limit → AllByRecursion (λ (row : ℕ × Insn). row.0 ≤ limit) (map (placed_insn all) (zip (starts_from pc steps) steps))
placed_below limit all pc [] le = tt
placed_below limit all pc (step ∷ steps) le =
    let next = pc + step_size pc step in
    (omega (arith, le, ends_above next steps), placed_below limit all next steps le)

pub frames_below : (limit pc : ℕ) (steps : List Step) (frames : List Frame) → end_from pc steps ≤ limit → AllByRecursion (λ (row : ℕ × Frame). row.0 ≤ limit) (zip (starts_from pc steps) frames)
frames_below limit pc [] [] le = tt
frames_below limit pc [] (frame ∷ frames) le = (le, tt)
frames_below limit pc (step ∷ steps) [] le = tt
frames_below limit pc (step ∷ steps) (frame ∷ frames) le =
    let next = pc + step_size pc step in
    (omega (arith, le, ends_above next steps), frames_below limit next steps frames le)

-- an instruction that stands somewhere stands before it
at_below : (limit pc : ℕ) (insns : List (ℕ × Insn)) (insn : Insn) → AllByRecursion (λ (row : ℕ × Insn). row.0 ≤ limit) insns → at_offset pc insns ≡ Some insn → pc ≤ limit
at_below limit pc [] insn h e = absurd cc
at_below limit pc (row ∷ insns) insn h e = by (eqb row.0 pc) refl h.0 (at_below limit pc insns insn h.1) e
  where
    by : (b : Bool) → eqb row.0 pc ≡ b → row.0 ≤ limit → (at_offset pc insns ≡ Some insn → pc ≤ limit) → cond b (Some row.1) (at_offset pc insns) ≡ Some insn → pc ≤ limit
    by true is here more e = grind (arith, nat_tests, here, is)
    by false is here more e = more e

-- ---- instructions

step_names : (all : List ℕ) (step : Step) → StepMayName step → MayName (insn_of all step).arg
step_names all (Put insn) h = h
step_names all (Open op) h = tt
step_names all (Landed op number) h = tt

pub insns_named : (all pcs : List ℕ) (steps : List Step) → AllByRecursion StepMayName steps → AllByRecursion (λ (row : ℕ × Insn). MayName row.1.arg) (map (placed_insn all) (zip pcs steps))
insns_named all [] steps h = tt
insns_named all (pc ∷ pcs) [] h = tt
insns_named all (pc ∷ pcs) (step ∷ steps) h = (step_names all step h.0, insns_named all pcs steps h.1)

-- ---- frames

values_hold : (P : VType → Type 0) (second : Bool) (words : List VType) → AllByRecursion P words → AllByRecursion P (values_from second words)
values_hold P second [] h = tt
values_hold P true (word ∷ words) h = values_hold P false words h.1
values_hold P false (word ∷ words) h = (h.0, values_hold P (is_wide word) words h.1)

values_count : (second : Bool) (words : List VType) → length (values_from second words) ≤ length words
values_count second [] = omega arith
values_count true (word ∷ words) = omega (arith, values_count false words)
values_count false (word ∷ words) = omega (arith, values_count (is_wide word) words)

-- a frame of which a pool may hold the texts, with few words on its stack
pub record IsFileableFrame (frame : Frame) : Type 0 where
  pub locals : AllByRecursion MayStandInMap frame.locals
  pub stack : AllByRecursion MayStandInMap frame.stack
  pub few_words : length frame.stack ≤ 20000

top_mapped : IsMapped Top
top_mapped is = absurd (false≢true is)

type_may : (insns : List (ℕ × Insn)) → AllByRecursion (λ (row : ℕ × Insn). row.0 ≤ 65535) insns → (type : VType) → IsMapped type → MayStandInMap type → IsMade insns type → MayPutType type
type_may insns below type is_mapped text made = record {
  mapped = is_mapped;
  text = text;
  small = λ pc e. let at = subst (IsMade insns) e made in omega (arith, at_below 65535 pc insns at.insn below at.stands);
}

types_may : (insns : List (ℕ × Insn)) → AllByRecursion (λ (row : ℕ × Insn). row.0 ≤ 65535) insns → (types : List VType) → AllByRecursion IsMapped types → AllByRecursion MayStandInMap types → AllByRecursion (IsMade insns) types
    → AllByRecursion MayPutType types
types_may insns below [] m t d = tt
types_may insns below (type ∷ types) m t d = (type_may insns below type m.0 t.0 d.0, types_may insns below types m.1 t.1 d.1)

pub frame_may : (words : ℕ) (insns : List (ℕ × Insn)) (row : ℕ × Frame) → words ≤ 255 → AllByRecursion (λ (r : ℕ × Insn). r.0 ≤ 65535) insns → IsFullFrame words insns row.1 → row.0 ≤ 65535 → IsFileableFrame row.1 → MayPutFrame row
frame_may words insns row few below full small texts =
    let frame = row.1 in
    let l = locals_are words full.locals full.fits in
    let locals = full.locals ++ tops l.count in
    let values : values_of frame.locals ≡ locals = ap (λ (f : Frame). values_of f.locals) full.is ∙ l.values in
    let stacked : values_of frame.stack ≡ full.stack = ap (λ (f : Frame). values_of f.stack) full.is ∙ stack_back full.stack in
    let as_long : length frame.locals ≡ words = ap (λ (f : Frame). length f.locals) full.is ∙ ap length (sym l.words) ∙ l.long in
    record {
      small = omega (arith, small);
      locals = types_may insns below (values_of frame.locals) (subst (AllByRecursion IsMapped) (sym values) (each_behind IsMapped full.locals l.count top_mapped full.locals_mapped))
          (values_hold MayStandInMap false frame.locals texts.locals)
          (subst (AllByRecursion (IsMade insns)) (sym values) (each_behind (IsMade insns) full.locals l.count tt (recursion_from_All (IsMade insns) full.locals full.locals_made)));
      stack = types_may insns below (values_of frame.stack) (subst (AllByRecursion IsMapped) (sym stacked) full.stack_mapped) (values_hold MayStandInMap false frame.stack texts.stack)
          (subst (AllByRecursion (IsMade insns)) (sym stacked) (recursion_from_All (IsMade insns) full.stack full.stack_made));
      few_locals = omega (arith, values_count false frame.locals, as_long, few);
      few_stack = omega (arith, values_count false frame.stack, texts.few_words);
    }
