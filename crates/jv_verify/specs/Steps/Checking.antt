-- The checks of a table at one instruction.
use Rattle.std.specs.Prelude.{◌≡◌, ◌<◌, ◌≤◌, ◌+◌, ◌↔◌, ℕ, min, Bool, false, IsTrue, List, length, take, get_or, Option, None, Some, MatchBool, Contains, All}
use Rattle.std.specs.List.{AllZip}
use Rattle.jv_types.specs.Bodies.{at_offset, rises_from, arg_targets, IsStart, IsNextStart}
use Rattle.jv_types.specs.declared.ids.MethodId.{MethodId}
use Rattle.jv_types.specs.declared.shapes.Shape.{Shape}
use Rattle.jv_types.specs.declared.instruction.Insn.{Insn}
use Rattle.jv_types.specs.declared.body.Handler.{Handler}
use Rattle.jv_types.specs.declared.body.Body.{Body}
use Rattle.jv_types.specs.declared.frames.Frame.{Frame}
use Rattle.jv_insn.specs.Effects.{is_end}
use Rattle.jv_insn.specs.Forms.{HasOwnOperands}
use Rattle.jv_insn.specs.KindSafe.{Covers}
use Rattle.jv_frames.specs.Entry.{IsInitialFrame}
use Rattle.jv_frames.specs.Assignable.{IsAssignable, IsFrameAssignable}
use Rattle.jv_typing.specs.Steps.{StepTyping}
use Rattle.jv_typing.specs.TypeSafe.{site_at, FitsThere, FitsWhereItGoes, SatisfiesHandler}
use Rattle.jv_types.specs.declared.rule.Rule.{Rule}
use Rattle.jv_verify.specs.declared.refusal.VerifyRefusal.{VerifyRefusal}
use Rattle.jv_verify.specs.declared.refusal.VerifyRefusal.TheVariants as refusal
use Rattle.jv_verify.specs.declared.no_table.NoTable.{NoTable}
use Rattle.jv_verify.specs.declared.no_table.NoTable.TheVariants as tables

-- the frames of a table
abbrev pub StandsIn : List (ℕ × Frame) → ℕ → Frame → Type 0
StandsIn rows pc frame = at_offset pc rows ≡ Some frame

-- a frame fits at each of these offsets
abbrev pub FitsAtEach : List Shape → List (ℕ × Frame) → List ℕ → Frame → Type 0
FitsAtEach w rows targets frame = (target : ℕ) → Contains targets target → FitsThere w (StandsIn rows) target frame

-- it fits at the next instruction, if the opcode goes on there
abbrev pub FitsNext : List Shape → Body → (ℕ → Frame → Type 0) → ℕ → ℕ → Frame → Type 0
FitsNext w body Stands pc op after = is_end op ≡ false → (next : ℕ) × IsNextStart pc body.insns next × FitsThere w Stands next after

-- a frame fits as a handler begins there: its local variables and its flag
pub record BeginsThere (w : List Shape) (frame there : Frame) : Type 0 where
  pub locals : AllZip (IsAssignable w) frame.locals there.locals
  pub flag : IsTrue frame.this_uninit → IsTrue there.this_uninit

-- It fits at the target of a handler, if that is right for some frame.
abbrev pub FitsTarget : List Shape → Option Frame → Frame → Type 0
FitsTarget w None frame = ⊥
FitsTarget w (Some there) frame = BeginsThere w frame there

-- The target of a handler that is right for some frame: the frames that fit there satisfy the handler. Without it
-- none does.
abbrev pub IsTarget : List Shape → List (ℕ × Frame) → Handler → Option Frame → Type 0
IsTarget w rows handler there = (frame : Frame) → FitsTarget w there frame ↔ SatisfiesHandler w (StandsIn rows) frame handler

-- the frame at an offset satisfies a handler, if it covers that
abbrev pub SatisfiesAt : List Shape → List (ℕ × Frame) → Handler → ℕ → Type 0
SatisfiesAt w rows handler pc = (frame : Frame) → StandsIn rows pc frame → Covers handler pc → SatisfiesHandler w (StandsIn rows) frame handler

-- the frame at an offset doesn't satisfy a handler that covers it
pub record FailsHandlerAt (w : List Shape) (rows : List (ℕ × Frame)) (handler : Handler) (pc : ℕ) : Type 0 where
  pub frame : Frame
  pub stands : StandsIn rows pc frame
  pub covers : Covers handler pc
  pub unfit : SatisfiesHandler w (StandsIn rows) frame handler → ⊥

-- the same of some of these handlers, and of all of them
abbrev pub FailsSomeAt : List Shape → List (ℕ × Frame) → List Handler → ℕ → Type 0
FailsSomeAt w rows handlers pc = (handler : Handler) × Contains handlers handler × FailsHandlerAt w rows handler pc

abbrev pub SatisfiesAllAt : List Shape → List (ℕ × Frame) → List Handler → ℕ → Type 0
SatisfiesAllAt w rows handlers pc = (handler : Handler) → Contains handlers handler → SatisfiesAt w rows handler pc

-- the rows from the first offset on and below the second, which stand in a row
pub record AreWithin (rows : List (ℕ × Frame)) (start end : ℕ) (within : List (ℕ × Frame)) : Type 0 where
  pub first : ℕ
  pub inside : first + length within ≤ length rows
  pub is : (place : ℕ) (row : ℕ × Frame) → place < length within → get_or within place row ≡ get_or rows (first + place) row
  pub from : (place : ℕ) (row : ℕ × Frame) → place < length within → (start ≤ (get_or within place row).0) × ((get_or within place row).0 < end)
  pub all : (place : ℕ) (row : ℕ × Frame) → place < length rows → start ≤ (get_or rows place row).0 → (get_or rows place row).0 < end → (first ≤ place) × (place < first + length within)

-- the first of some rows that hasn't a property, by its offset
pub record IsFirstWithout (P : Frame → Type 0) (rows : List (ℕ × Frame)) (pc : ℕ) : Type 0 where
  pub place : ℕ
  pub here : place < length rows
  pub row : ℕ × Frame
  pub is : row ≡ get_or rows place row
  pub starts : row.0 ≡ pc
  pub fails : P row.1 → ⊥
  pub before : All (λ (other : ℕ × Frame). P other.1) (take place rows)

-- the least offset that is bad, and those below it are good; or there is none, and all are good
abbrev pub IsLeastBad : (ℕ → Type 0) → (ℕ → Type 0) → Option ℕ → Type 0
IsLeastBad Good Bad None = (pc : ℕ) → Good pc
IsLeastBad Good Bad (Some pc) = Bad pc × ((other : ℕ) → other < pc → Good other)

-- the lesser of two offsets, where there are two
abbrev pub earlier : Option ℕ → Option ℕ → Option ℕ
earlier None b = b
earlier (Some a) None = Some a
earlier (Some a) (Some b) = Some (min a b)

-- what an instruction leaves fits at the next one and at its targets
pub record FitsOn (w : List Shape) (body : Body) (rows : List (ℕ × Frame)) (pc : ℕ) (insn : Insn) (after : Frame) : Type 0 where
  pub falls : FitsNext w body (StandsIn rows) pc insn.op after
  pub jumps : FitsAtEach w rows (arg_targets insn.arg) after

-- the instruction is typed on the table's frame, and what it leaves fits at the next one and at its targets
pub record IsTypedThere (w : List Shape) (method : MethodId) (body : Body) (rows : List (ℕ × Frame)) (pc : ℕ) (insn : Insn) : Type 0 where
  pub frame : Frame
  pub stands : StandsIn rows pc frame
  pub after : Frame
  pub typing : StepTyping w (site_at method body pc) frame insn after
  pub fits : FitsOn w body rows pc insn after

-- the instruction is typed on the table's frame, and what it leaves fits where it goes
pub record IsCheckedAt (w : List Shape) (method : MethodId) (body : Body) (rows : List (ℕ × Frame)) (pc : ℕ) (insn : Insn) : Type 0 where
  pub frame : Frame
  pub stands : StandsIn rows pc frame
  pub after : Frame
  pub typing : StepTyping w (site_at method body pc) frame insn after
  pub goes : FitsWhereItGoes w body (StandsIn rows) pc insn frame after

-- no frame stands at the instruction, or it isn't typed on the frame there, or what it leaves doesn't fit
pub data FailsHere (w : List Shape) (method : MethodId) (body : Body) (rows : List (ℕ × Frame)) (pc : ℕ) (insn : Insn) : Type 0 where
  bare : at_offset pc rows ≡ None → FailsHere w method body rows pc insn
  untyped : (frame : Frame) → StandsIn rows pc frame → ((after : Frame) → StepTyping w (site_at method body pc) frame insn after → ⊥) → FailsHere w method body rows pc insn
  unfit : (frame after : Frame) → StandsIn rows pc frame → StepTyping w (site_at method body pc) frame insn after → (FitsWhereItGoes w body (StandsIn rows) pc insn frame after → ⊥) → FailsHere w method body rows pc insn

-- the answer of a check
abbrev pub Decides : List Shape → MethodId → Body → List (ℕ × Frame) → ℕ × Insn → Bool → Type 0
Decides w method body rows row typed = MatchBool typed (IsTypedThere w method body rows row.0 row.1) (FailsHere w method body rows row.0 row.1)

-- the instruction at an offset is typed so, and it fails
abbrev pub IsTypedIf : List Shape → MethodId → Body → List (ℕ × Frame) → ℕ → Type 0
IsTypedIf w method body rows pc = (insn : Insn) → at_offset pc body.insns ≡ Some insn → IsTypedThere w method body rows pc insn

abbrev pub FailsItself : List Shape → MethodId → Body → List (ℕ × Frame) → ℕ → Type 0
FailsItself w method body rows pc = (insn : Insn) × (at_offset pc body.insns ≡ Some insn) × FailsHere w method body rows pc insn

-- each instruction is checked
abbrev pub AreChecked : List Shape → MethodId → Body → List (ℕ × Frame) → Type 0
AreChecked w method body rows = (pc : ℕ) (insn : Insn) → at_offset pc body.insns ≡ Some insn → IsCheckedAt w method body rows pc insn

-- the instruction at this offset fails, and those before it are checked
pub record FailsFirst (w : List Shape) (method : MethodId) (body : Body) (rows : List (ℕ × Frame)) (pc : ℕ) : Type 0 where
  pub insn : Insn
  pub stands : at_offset pc body.insns ≡ Some insn
  pub fails : FailsHere w method body rows pc insn
  pub before : (start : ℕ) (other : Insn) → start < pc → at_offset start body.insns ≡ Some other → IsCheckedAt w method body rows start other

-- the first failing instruction, or all are checked
abbrev pub FirstFails : List Shape → MethodId → Body → List (ℕ × Frame) → Option ℕ → Type 0
FirstFails w method body rows None = AreChecked w method body rows
FirstFails w method body rows (Some pc) = FailsFirst w method body rows pc

-- the frame as a method begins fits the map at its first instruction, if one stands there
abbrev pub FitsFirst : List Shape → List (ℕ × Frame) → Frame → Type 0
FitsFirst w maps initial = (map : Frame) → at_offset 0 maps ≡ Some map → IsFrameAssignable w initial map

-- the frame as a method begins fits
pub record HasBegun (w : List Shape) (method : MethodId) (body : Body) (maps : List (ℕ × Frame)) (initial : Frame) : Type 0 where
  pub is : IsInitialFrame w method body.max_locals initial
  pub fits : FitsFirst w maps initial

-- What each code that is decoded has, with the frames of its maps: an instruction at 0, operands of the
-- opcode's layout, and maps in order and at instructions.
pub record IsReady (body : Body) (maps : List (ℕ × Frame)) : Type 0 where
  pub at_zero : IsStart body.insns 0
  pub operands : (pc : ℕ) (insn : Insn) → at_offset pc body.insns ≡ Some insn → HasOwnOperands insn
  pub rising : IsTrue (rises_from 0 maps)
  pub maps_start : (pc : ℕ) → IsStart maps pc → IsStart body.insns pc

-- the offset that an answer names has a property
abbrev pub NoneAt : (ℕ → Type 0) → NoTable → Type 0
NoneAt P (tables.At pc) = P pc
NoneAt P tables.Memory = Unit {0}

-- a method is refused by this rule, at an offset with a property
abbrev pub RefusedBy : Rule → (ℕ → Type 0) → VerifyRefusal → Type 0
RefusedBy rule P (refusal.At by pc) = (by ≡ rule) × P pc
RefusedBy rule P refusal.Memory = Unit {0}
