-- What a code that was decoded has, with the frames of its maps.
use Rattle.std.proofs.Common.{◌≡◌, ℕ, ◌+◌, ◌<◌, List, [], ◌∷◌, length, Bool, true, false, cond, eqb, Some, None, refl, ◌∙◌, subst, arith}
use Rattle.std.specs.Prelude.{IsSome}
use Rattle.std.specs.List.{AllZip}
use Rattle.std.proofs.lemmas.Bool.Decides.{nat_tests}
use Rattle.jv_types.specs.Bodies.{at_offset, IsStart}
use Rattle.jv_types.specs.declared.ids.MethodId.{MethodId}
use Rattle.jv_types.specs.declared.shapes.Shape.{Shape}
use Rattle.jv_types.specs.declared.instruction.Insn.{Insn}
use Rattle.jv_types.specs.declared.body.Body.{Body}
use Rattle.jv_types.specs.declared.frames.VType.{VType}
use Rattle.jv_types.specs.declared.frames.Frame.{Frame}
use Rattle.jv_pool.specs.declared.item.PoolItem.{PoolItem}
use Rattle.jv_attr.specs.declared.frame.MapFrame.{MapFrame}
use Rattle.jv_attr.specs.declared.attr.CodeAttr.{CodeAttr}
use Rattle.jv_insn.specs.declared.written.Written.{Written}
use Rattle.jv_insn.specs.Layouts.{Lays, Ends, AtEnd}
use Rattle.jv_insn.specs.Decoding.{IsRow, Decodes}
use Rattle.jv_insn.proofs.OfLayout.{decoded_own}
use Rattle.jv_frames.specs.Types.{frame_of}
use Rattle.jv_frames.specs.Maps.{frame_delta, AreMapFrames, AreFramesOf}
use Rattle.jv_typing_laws.proofs.Forced.{maps_rise}
use Rattle.jv_verify.specs.Steps.Checking.{IsReady}

-- each map stands at an instruction
at_instructions : (pool : List PoolItem) (body : Body) (base : ℕ) (before : List VType) (written : List MapFrame) (rows : List (ℕ × Frame)) → AreMapFrames pool body base before written rows
    → (pc : ℕ) → IsStart rows pc → IsStart body.insns pc
at_instructions pool body base before [] rows h pc s = absurd (let t : IsStart {I = Frame} [] pc = subst (λ (l : List (ℕ × Frame)). IsStart l pc) h s in cc)
at_instructions pool body base before (f ∷ frames) rows (locals, stack, rest, is_frame, is, more) pc s =
    by (frame_of body.max_locals locals stack) (eqb (base + frame_delta f) pc) refl (subst (λ (l : List (ℕ × Frame)). IsStart l pc) is s) (λ t. at_instructions pool body (base + frame_delta f + 1) locals frames rest more pc t)
  where
    by : (frame : Frame) (b : Bool) → eqb (base + frame_delta f) pc ≡ b → IsSome (cond b (Some frame) (at_offset pc rest)) → (IsStart rest pc → IsStart body.insns pc) → IsStart body.insns pc
    by frame true e t further = let place : base + frame_delta f ≡ pc = grind (arith, nat_tests) in subst (IsStart body.insns) place is_frame.at_instruction
    by frame false e t further = further t

ends_empty : (code : List ℕ) → 0 < length code → Ends 0 code None → ⊥
ends_empty _ spelled AtEnd = omega arith

-- a code with a byte begins with an instruction
begins_at_zero : (pool : List PoolItem) (max_locals : ℕ) (code : List ℕ) (rows all : List (ℕ × Written)) (insns : List (ℕ × Insn)) → 0 < length code → Lays 0 code rows None
    → AllZip (IsRow pool max_locals all) rows insns → IsStart insns 0
begins_at_zero pool max_locals code [] all insns spelled laid zipped = absurd (ends_empty code spelled laid)
begins_at_zero pool max_locals code (row ∷ rows) all [] spelled laid zipped = absurd zipped
begins_at_zero pool max_locals code (row ∷ rows) all (insn ∷ insns) spelled laid (is, zipped) =
    let first : insn.0 ≡ 0 = is.pc ∙ laid.1.0 in
    let here : eqb insn.0 0 ≡ true = grind (arith, nat_tests) in
    rw here refl

pub decoded_is_ready : (w : List Shape) (id : MethodId) (pool : List PoolItem) (code : CodeAttr) (body : Body) (maps : List (ℕ × Frame)) → 0 < length code.code
    → Decodes pool code.max_stack code.max_locals code.code code.handlers body → AreFramesOf w id pool code body maps → IsReady body maps
decoded_is_ready w id pool code body maps spelled decodes frames = record {
  at_zero = begins_at_zero pool code.max_locals code.code decodes.rows decodes.rows body.insns spelled decodes.laid decodes.insns;
  operands = λ pc insn at. decoded_own pool code.max_stack code.max_locals code.code code.handlers body pc insn decodes at;
  rising = maps_rise pool body 0 frames.types _ maps frames.frames;
  maps_start = λ pc s. at_instructions pool body 0 frames.types _ maps frames.frames pc s;
}
