-- Rows of codes: each instruction fits, each stack is low, and each frame is full.
use Rattle.std.proofs.Common.{◌≡◌, ℕ, suc, ◌+◌, ◌*◌, ◌<◌, ◌≤◌, List, [], ◌∷◌, ◌++◌, length, map, sym, subst, inl, inr, arith}
use Rattle.std.specs.List.{AllByRecursion}
use Rattle.std.proofs.lemmas.List.{length-map}
use Rattle.jv_types.specs.declared.instruction.Insn.{Insn}
use Rattle.jv_types.specs.declared.frames.VType.{VType}
use Rattle.jv_types.specs.declared.frames.Frame.{Frame}
use Rattle.jv_types.specs.declared.shapes.MethodShape.{MethodShape}
use Rattle.jv_frames.specs.Types.{frame_of}
use Rattle.av_asm.specs.declared.step.Step.{Step}
use Rattle.av_asm.specs.declared.step.Step.TheVariants.{Put, Open, Landed}
use Rattle.av_asm.specs.declared.step.Span.{Span}
use Rattle.av_asm.specs.Planning.{step_size, end_from, most_words}
use Rattle.av_asm.specs.Finishing.{IsFullFrame}
use Rattle.av_fitting.specs.Fitting.{IsFitInsn, IsFitStep, AreFit, IsPut}
use Rattle.av_fitting.proofs.Near.{starts_near}
use Rattle.av_fitting.proofs.Finished.{may_finish}
use Rattle.av_standin_of.specs.Codes.{Row, Code, row, built_of}
use Rattle.av_standin_of.specs.Templates.{words_in}
use Rattle.av_sketches.specs.Conditions.{IsFinishable}
use Rattle.av_fit_codes.proofs.Frames.{FillsLocals, FillsStack, few_in_words, full_frame}

-- ---- one row

-- an instruction as it is, that fits
abbrev pub IsFitPut : ℕ → Step → Type 0
IsFitPut words (Put insn) = IsFitInsn words insn
IsFitPut words (Open op) = ⊥
IsFitPut words (Landed op target) = ⊥

abbrev pub step_of : Row → Step
step_of row = row.step

abbrev pub frame_in : Row → Frame
frame_in row = row.frame

-- a frame with few words on its stack
abbrev pub IsLow : Row → Type 0
IsLow row = length row.frame.stack ≤ 600

-- a row whose instruction fits, and whose stack is low
pub record IsFitRow (words : ℕ) (row : Row) : Type 0 where
  pub fits : IsFitPut words row.step
  pub low : IsLow row

-- a row whose frame is that of a full map, and whose stack is low
pub record HasFullFrame (words : ℕ) (row : Row) : Type 0 where
  pub low : IsLow row
  pub full : IsFullFrame words [] row.frame

-- a row that is both
pub record IsFullRow (words : ℕ) (row : Row) : Type 0 where
  pub fits : IsFitPut words row.step
  pub frame : HasFullFrame words row

pub fit_row : (words : ℕ) (locals stack : List VType) (insn : Insn) → IsFitInsn words insn → length stack ≤ 300 → IsFitRow words (row words locals stack insn)
fit_row words locals stack insn fits few = record { fits = fits; low = omega (arith, few, few_in_words stack) }

pub has_full_frame : (words : ℕ) (locals stack : List VType) (step : Step) → FillsLocals words locals → FillsStack stack → HasFullFrame words (record { step = step; frame = frame_of words locals stack })
has_full_frame words locals stack step l s = let few = s.few in record { low = omega (arith, few_in_words stack); full = full_frame words locals stack l s }

pub full_row : (words : ℕ) (locals stack : List VType) (insn : Insn) → IsFitInsn words insn → FillsLocals words locals → FillsStack stack → IsFullRow words (row words locals stack insn)
full_row words locals stack insn fits l s = record { fits = fits; frame = has_full_frame words locals stack (Put insn) l s }

-- ---- lists of rows

pub all_both : {X : Type 0} (P : X → Type 0) (xs ys : List X) → AllByRecursion P xs → AllByRecursion P ys → AllByRecursion P (xs ++ ys)
all_both P [] ys front back = back
all_both P (x ∷ xs) ys front back = (front.0, all_both P xs ys front.1 back)

fit_step : (words count number : ℕ) (step : Step) → IsFitPut words step → IsFitStep words count number step
fit_step words count number (Put insn) h = h
fit_step words count number (Open op) h = absurd h
fit_step words count number (Landed op target) h = absurd h

is_put : (words : ℕ) (step : Step) → IsFitPut words step → IsPut step
is_put words (Put insn) h = tt
is_put words (Open op) h = absurd h
is_put words (Landed op target) h = absurd h

-- the instructions fit, whatever the number of the first
pub rows_fit : (words count number : ℕ) (rows : List Row) → AllByRecursion (IsFitRow words) rows → AreFit words count number (map step_of rows)
rows_fit words count number [] h = tt
rows_fit words count number (row ∷ rows) h = (fit_step words count number row.step h.0.fits, rows_fit words count (number + 1) rows h.1)

pub full_rows_fit : (words count number : ℕ) (rows : List Row) → AllByRecursion (IsFullRow words) rows → AreFit words count number (map step_of rows)
full_rows_fit words count number [] h = tt
full_rows_fit words count number (row ∷ rows) h = (fit_step words count number row.step h.0.fits, full_rows_fit words count (number + 1) rows h.1)

pub full_rows_framed : (words : ℕ) (rows : List Row) → AllByRecursion (IsFullRow words) rows → AllByRecursion (HasFullFrame words) rows
full_rows_framed words [] h = tt
full_rows_framed words (row ∷ rows) h = (h.0.frame, full_rows_framed words rows h.1)

rows_put : (words : ℕ) (rows : List Row) → AllByRecursion (IsFitRow words) rows → AllByRecursion IsPut (map step_of rows)
rows_put words [] h = tt
rows_put words (row ∷ rows) h = (is_put words row.step h.0.fits, rows_put words rows h.1)

rows_low : (words : ℕ) (rows : List Row) → AllByRecursion (IsFitRow words) rows → most_words (map frame_in rows) ≤ 600
rows_low words [] h = omega arith
rows_low words (row ∷ rows) h = omega (arith, h.0.low, rows_low words rows h.1)

frames_low : (words : ℕ) (rows : List Row) → AllByRecursion (HasFullFrame words) rows → most_words (map frame_in rows) ≤ 600
frames_low words [] h = omega arith
frames_low words (row ∷ rows) h = omega (arith, h.0.low, frames_low words rows h.1)

frames_full : (words : ℕ) (rows : List Row) → AllByRecursion (HasFullFrame words) rows → AllByRecursion (IsFullFrame words []) (map frame_in rows)
frames_full words [] h = tt
frames_full words (row ∷ rows) h = (h.0.full, frames_full words rows h.1)

-- what is added goes on with the numbers
pub fit_both : (words count number : ℕ) (xs ys : List Step) → AreFit words count number xs → AreFit words count (number + length xs) ys → AreFit words count number (xs ++ ys)
fit_both words count number [] ys front back = let same : number + 0 ≡ number = omega arith in subst (λ (n : ℕ). AreFit words count n ys) same back
fit_both words count number (x ∷ xs) ys front back =
    let same : number + suc (length xs) ≡ number + 1 + length xs = omega arith in
    (front.0, fit_both words count (number + 1) xs ys front.1 (subst (λ (n : ℕ). AreFit words count n ys) same back))

-- ---- lengths

-- an instruction takes at most six bytes
size_few : (words count number pc : ℕ) (step : Step) → IsFitStep words count number step → step_size pc step ≤ 6
size_few words count number pc step h =
    let near = starts_near words count number pc (step ∷ []) (h, tt) 1 (omega arith) in
    omega (arith, near)

end_few : (words count number pc : ℕ) (steps : List Step) → AreFit words count number steps → end_from pc steps ≤ pc + 6 * length steps
end_few words count number pc [] h = omega arith
end_few words count number pc (step ∷ steps) h =
    omega (arith, size_few words count number pc step h.0, end_few words count (number + 1) (pc + step_size pc step) steps h.1)

-- ---- codes

short : (words count : ℕ) (rows : List Row) → AreFit words count 0 (map step_of rows) → length rows ≤ 10000 → end_from 0 (map step_of rows) ≤ 65535
short words count rows fit few = omega (arith, few, end_few words count 0 0 (map step_of rows) fit, length-map rows step_of)

-- a code that leads nowhere
pub nowhere_finishable : (shape : MethodShape) (code : Code) → code.words ≡ words_in shape → code.words ≤ 65535 → code.spans ≡ [] → AllByRecursion (IsFitRow code.words) code.rows → length code.rows ≤ 10000
    → IsFinishable shape code
nowhere_finishable shape code words few none rows many =
    let fit = rows_fit code.words (length (map step_of code.rows)) 0 code.rows rows in record {
      words = words;
      finishes = λ pool method. may_finish pool (built_of method code) (record {
        steps = fit;
        led = subst (λ (spans : List Span). AllByRecursion (λ (span : Span). span.target < length (map step_of code.rows)) spans) (sym none) tt;
        frames = inr (record { steps = rows_put code.words code.rows rows; spans = none });
        stack = omega (arith, rows_low code.words code.rows rows);
        words = few;
      });
      short = short code.words (length (map step_of code.rows)) code.rows fit many;
    }

-- a code whose frames are full
pub framed_finishable : (shape : MethodShape) (code : Code) → code.words ≡ words_in shape → code.words ≤ 65535 → AreFit code.words (length (map step_of code.rows)) 0 (map step_of code.rows)
    → AllByRecursion (λ (span : Span). span.target < length (map step_of code.rows)) code.spans → AllByRecursion (HasFullFrame code.words) code.rows → length code.rows ≤ 10000 → IsFinishable shape code
framed_finishable shape code words few fit led rows many = record {
  words = words;
  finishes = λ pool method. may_finish pool (built_of method code) (record {
    steps = fit;
    led = led;
    frames = inl (frames_full code.words code.rows rows);
    stack = omega (arith, frames_low code.words code.rows rows);
    words = few;
  });
  short = short code.words (length (map step_of code.rows)) code.rows fit many;
}
