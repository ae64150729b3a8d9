-- The instructions of a kind safe method and their frames.
use Rattle.std.proofs.Common.{◌≡◌, ℕ, List, Option, Some, false, refl, sym, subst}
use Rattle.jv_table.specs.CodeRows.{OpForm}
use Rattle.jv_types.specs.Bodies.{at_offset, IsStart}
use Rattle.jv_types.specs.declared.instruction.Insn.{Insn}
use Rattle.jv_types.specs.declared.frames.Frame.{Frame}
use Rattle.jv_types.specs.declared.shapes.Shape.{Shape}
use Rattle.jv_types.specs.declared.frames.FramedBody.{FramedBody}
use Rattle.jv_insn.specs.Effects.{op_row, effect_of, decides_cells}
use Rattle.jv_insn.specs.Forms.{HasRowOperands}
use Rattle.jv_insn.specs.Leaving.{Words}
use Rattle.jv_insn.specs.Kinds.{WordKind}
use Rattle.jv_insn.specs.KindSafe.{IsKindSafe, FitsAt}
use Rattle.jv_insn.proofs.OneEach.{same_starts, value_of}
use Rattle.jv_insn.proofs.Tables.{row_cells_taken, row_cells_given}

-- where a frame fits there is an instruction
pub fits_start : (world : List Shape) (framed : FramedBody) → IsKindSafe world framed → (pc : ℕ) (words : Words WordKind) → FitsAt framed.frames pc words → IsStart framed.body.insns pc
fits_start world framed safe pc words f = same_starts pc framed.frames framed.body.insns safe.one_each (rw f.stands refl)

-- an instruction has its frame
pub frame_of : (world : List Shape) (framed : FramedBody) → IsKindSafe world framed → (pc : ℕ) → IsStart framed.body.insns pc → (frame : Frame) × (at_offset pc framed.frames ≡ Some frame)
frame_of world framed safe pc s = value_of (at_offset pc framed.frames) (same_starts pc framed.body.insns framed.frames (sym safe.one_each) s)

-- an instruction takes and gives the cells of its row
pub own_row : (world : List Shape) (framed : FramedBody) (pc : ℕ) (insn : Insn) (row : OpForm) → IsKindSafe world framed → at_offset pc framed.body.insns ≡ Some insn → op_row insn.op ≡ Some row → decides_cells row.form ≡ false
    → ((effect_of insn).takes ≡ row.takes) × ((effect_of insn).gives ≡ row.gives)
own_row world framed pc insn row safe stands known decided =
    let frame = frame_of world framed safe pc (rw stands refl) in
    let own = (safe.each pc insn frame.0 stands frame.1).operands in
    let has = subst (λ (r : Option OpForm). HasRowOperands r insn.arg) known own in
    (row_cells_taken insn.op insn.arg row known has decided, row_cells_given insn.op insn.arg row known has decided)
