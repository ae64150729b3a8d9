-- Methods whose frames fit the kinds of words that their instructions take and leave. Such a method never
-- wants for an operand, whatever the values are.
use Rattle.std.specs.Prelude.{◌≡◌, ◌<◌, ◌≤◌, ℕ, Bool, IsTrue, ◌==◌, if◌then◌else◌, List, [], ◌∷◌, ◌++◌, length, take, drop, map, Contains, All, Option, None, Some, slice_get, option_and_then, bit_and}
use Rattle.std.specs.List.{flat_map}
use Rattle.jv_table.specs.CodeRows.{OpForm}
use Rattle.jv_table.specs.declared.code_tables.Cell.{Cell}
use Rattle.jv_table.specs.declared.code_tables.Kind.TheVariants.{Outside}
use Rattle.jv_types.specs.Bodies.{at_offset, IsNextStart}
use Rattle.jv_types.specs.declared.ids.MethodId.{MethodId}
use Rattle.jv_types.specs.declared.shapes.Shape.{Shape}
use Rattle.jv_types.specs.declared.shapes.MethodShape.{MethodShape}
use Rattle.jv_types.specs.declared.instruction.Insn.{Insn}
use Rattle.jv_types.specs.declared.body.Handler.{Handler}
use Rattle.jv_types.specs.declared.body.Body.{Body}
use Rattle.jv_types.specs.declared.frames.Frame.{Frame}
use Rattle.jv_types.specs.declared.frames.FramedBody.{FramedBody}
use Rattle.jv_insn.specs.Effects.{Shuffle, effect_of, op_row, is_return, desc_cell, result_cells}
use Rattle.jv_insn.specs.Forms.{HasOwnOperands}
use Rattle.jv_insn.specs.Leaving.{Words}
use Rattle.jv_insn.specs.Kinds.{EndsWithCells, HoldsCell, WordKind, Reference, cell_words, kinds_of, kinds_left, SaysNoMore}

-- ---- the method

-- the method that an id names among the classes of a world
abbrev pub method_of : List Shape → MethodId → Option MethodShape
method_of world id = option_and_then (λ (shape : Shape). slice_get shape.methods id.index) (slice_get world id.class.number)

-- a static method (JVMS 4.6)
abbrev pub is_static : MethodShape → Bool
is_static shape = bit_and shape.flags.0 8 == 8

-- what the words hold as a method begins: the receiver, where there is one, and the arguments (JVMS 2.6.1)
abbrev pub entry_words : MethodShape → Words WordKind
entry_words shape = record {
  locals = (if is_static shape then [] else Reference ∷ []) ++ flat_map cell_words (map desc_cell shape.desc.params);
  stack = [];
}

-- ---- places and frames

-- the frame before the instruction that starts at an offset fits these words
pub record FitsAt (frames : List (ℕ × Frame)) (pc : ℕ) (words : Words WordKind) : Type 0 where
  pub frame : Frame
  pub stands : at_offset pc frames ≡ Some frame
  pub fits : SaysNoMore (kinds_of frame) words

-- the same before the next instruction, and there is one
pub record FitsNext (body : Body) (frames : List (ℕ × Frame)) (pc : ℕ) (words : Words WordKind) : Type 0 where
  pub next : ℕ
  pub follows : IsNextStart pc body.insns next
  pub fits : FitsAt frames next words

-- an exception handler covers the instruction at an offset (JVMS 4.7.3)
abbrev pub Covers : Handler → ℕ → Type 0
Covers handler pc = (handler.start ≤ pc) × (pc < handler.end)

-- ---- one instruction

-- the words that an instruction moves are there
abbrev pub HasWords : Option Shuffle → ℕ → Type 0
HasWords None depth = Unit {0}
HasWords (Some shuffle) depth = shuffle.count ≤ depth

-- a local variable holds a cell
abbrev pub LocalHolds : Frame → ℕ × Cell → Type 0
LocalHolds frame read = HoldsCell read.1 (take (length (cell_words read.1)) (drop read.0 frame.locals))

-- an opcode that has an effect here: none of jsr, ret, jsr_w, invokedynamic and wide
abbrev pub HasEffect : Option OpForm → Type 0
HasEffect None = ⊥
HasEffect (Some row) = row.kind ≡ Outside → ⊥

-- an instruction finds what it takes, and each place where it goes is an instruction whose frame fits what
-- it leaves
pub record IsKindSafeAt (result : List Cell) (framed : FramedBody) (pc : ℕ) (insn : Insn) (frame : Frame) : Type 0 where
  pub known : HasEffect (op_row insn.op)
  -- its operands are of its opcode's layout
  pub operands : HasOwnOperands insn
  pub takes : EndsWithCells (effect_of insn).takes frame.stack
  pub moves : HasWords (effect_of insn).shuffle (length frame.stack)
  pub reads : All (LocalHolds frame) (effect_of insn).reads
  -- a return is that of the method's result
  pub returns : IsTrue (is_return insn.op) → (effect_of insn).takes ≡ result
  pub falls : IsTrue (effect_of insn).falls → FitsNext framed.body framed.frames pc (kinds_left insn (kinds_of frame))
  pub jumps : (target : ℕ) → Contains (effect_of insn).targets target → FitsAt framed.frames target (kinds_left insn (kinds_of frame))
  -- a handler finds the local variables as they were, and the throwable alone on the stack
  pub throws : (handler : Handler) → Contains framed.body.handlers handler → Covers handler pc → FitsAt framed.frames handler.target (record { locals = (kinds_of frame).locals; stack = Reference ∷ [] })

-- ---- methods

-- a method of a world is kind safe
pub record IsKindSafe (world : List Shape) (framed : FramedBody) : Type 0 where
  pub shape : MethodShape
  pub declared : method_of world framed.method ≡ Some shape
  -- one frame for each instruction
  pub one_each : map (λ (row : ℕ × Frame). row.0) framed.frames ≡ map (λ (row : ℕ × Insn). row.0) framed.body.insns
  pub entry : FitsAt framed.frames 0 (entry_words shape)
  pub each : (pc : ℕ) (insn : Insn) (frame : Frame) → at_offset pc framed.body.insns ≡ Some insn → at_offset pc framed.frames ≡ Some frame → IsKindSafeAt (result_cells shape.desc.result) framed pc insn frame

-- each of these methods of a world is
abbrev pub KindSafe : List Shape → List FramedBody → Type 0
KindSafe world methods = (method : FramedBody) → Contains methods method → IsKindSafe world method
