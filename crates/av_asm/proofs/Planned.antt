-- What was put makes a code that may be written.
use Rattle.std.proofs.Common.{◌≡◌, ℕ, ◌≤◌, Bool, true, false, cond, List, [], ◌∷◌, length, map, None, refl, sym, subst, arith}
use Rattle.std.specs.List.{AllByRecursion, zip, filter}
use Rattle.jv_types.specs.Bodies.{rises_from, IsStart}
use Rattle.jv_types.specs.declared.instruction.Insn.{Insn}
use Rattle.jv_types.specs.declared.body.Handler.{Handler}
use Rattle.jv_types.specs.declared.frames.Frame.{Frame}
use Rattle.jv_types.specs.declared.frames.FramedBody.{FramedBody}
use Rattle.jv_pool.specs.declared.item.PoolItem.{PoolItem}
use Rattle.jv_insn.specs.Encoding.{is_left_out, StandsNear, MayStand, AreLaid, HasPlaces}
use Rattle.av_asm.specs.declared.step.Span.{Span}
use Rattle.av_asm.specs.Built.{Built, KeepsForm}
use Rattle.av_asm.specs.Planning.{handler_of, most_words, starts_from, Plan, plan_of, plan_in, target_frames}
use Rattle.av_asm.specs.Finishing.{IsFramed, IsFullFrame, MayFinish, MayWrite}
use Rattle.av_asm.proofs.Offsets.{are_laid, zip_rises, frames_start, have_places}

-- ---- the greatest number of words

pub most_above : (most : ℕ) (pcs : List ℕ) (frames : List Frame) → most_words frames ≤ most → AllByRecursion (λ (row : ℕ × Frame). length row.1.stack ≤ most) (zip pcs frames)
most_above most [] frames le = tt
most_above most (pc ∷ pcs) [] le = tt
most_above most (pc ∷ pcs) (f ∷ frames) le = (omega (arith, le), most_above most pcs frames (omega (arith, le)))

-- ---- a code that may be written

catch_all : (starts : List ℕ) (spans : List Span) → AllByRecursion (λ (handler : Handler). handler.catch ≡ None) (map (handler_of starts) spans)
catch_all starts [] = tt
catch_all starts (span ∷ spans) = (refl, catch_all starts spans)

-- what may be finished is a code that may be written, whose plan is this one
pub record MayWritePlan (pool : List PoolItem) (plan : Plan) : Type 0 where
  pub laid : AreLaid 0 plan.insns plan.length
  pub each : AllByRecursion (λ (row : ℕ × Insn). MayStand plan.max_locals plan.insns row.0 row.1) plan.insns
  pub handlers : AllByRecursion (HasPlaces plan.insns plan.length) plan.handlers
  pub catches : AllByRecursion (λ (handler : Handler). handler.catch ≡ None) plan.handlers
  pub whole : AllByRecursion (λ (row : ℕ × Insn). is_left_out row.1.arg ≡ false) plan.insns
  pub near : AllByRecursion (λ (row : ℕ × Insn). StandsNear pool row.1) plan.insns
  pub rising : rises_from 0 plan.frames ≡ true
  pub starts : AllByRecursion (λ (row : ℕ × Frame). IsStart plan.insns row.0) plan.frames
  pub stack : AllByRecursion (λ (row : ℕ × Frame). length row.1.stack ≤ plan.max_stack) plan.frames
  pub maps : AllByRecursion (λ (row : ℕ × Frame). IsFullFrame plan.max_locals plan.insns row.1) (target_frames plan)

may_write_plan : (pool : List PoolItem) (built : Built) → KeepsForm built.steps built.frames built.spans → MayFinish pool built → MayWritePlan pool (plan_of built)
may_write_plan pool built keeps may =
    let starts = starts_from 0 built.steps in record {
      laid = are_laid starts 0 built.steps;
      each = may.each;
      handlers = have_places built.steps built.spans keeps.handled may.led;
      catches = catch_all starts built.spans;
      whole = may.whole;
      near = may.near;
      rising = zip_rises 0 0 built.steps built.frames (omega arith);
      starts = frames_start starts 0 built.steps built.frames keeps.each;
      stack = most_above (most_words built.frames) starts built.frames (omega arith);
      maps = may.maps;
    }

pub may_write : (pool : List PoolItem) (built : Built) (framed : FramedBody) → KeepsForm built.steps built.frames built.spans → MayFinish pool built → IsFramed built framed → MayWrite pool framed
may_write pool built framed keeps may is =
    let w : MayWritePlan pool (plan_in framed) = subst (MayWritePlan pool) (sym is.plan) (may_write_plan pool built keeps may) in record {
      encodes = record { laid = w.laid; each = w.each; handlers = w.handlers; whole = w.whole; near = w.near };
      catches = w.catches;
      rising = w.rising;
      starts = w.starts;
      stack = w.stack;
      maps = w.maps;
    }

-- ---- a part of the frames

pub filtered : {A : Type 0} (P : A → Type 0) (test : A → Bool) (xs : List A) → AllByRecursion P xs → AllByRecursion P (filter test xs)
filtered {A} P test [] h = tt
filtered {A} P test (x ∷ xs) h = by (test x) (filtered P test xs h.1)
  where
    by : (b : Bool) → AllByRecursion P (filter test xs) → AllByRecursion P (cond b (x ∷ filter test xs) (filter test xs))
    by true more = (h.0, more)
    by false more = more
