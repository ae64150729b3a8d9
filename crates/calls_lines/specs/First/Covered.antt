-- What lines cover of a run of a class: its calls, and the objects that stand in the words of its frames
-- and in fields.
use Rattle.std.specs.Prelude.{◌≡◌, ℕ, Bool, List, Some, Contains}
use Rattle.std.specs.List.{slice_get, AllByRecursion}
use Rattle.jv_types.specs.declared.place.Place.{Place}
use Rattle.jv_types.specs.declared.place.Place.TheVariants as place
use Rattle.jv_types.specs.declared.fact.Fact.{Fact}
use Rattle.jv_types.specs.declared.fact.Fact.TheVariants.{Pt}
use Rattle.calls_form.specs.declared.object_class.ObjectClass.{ObjectClass}
use Rattle.calls_form.specs.Kinds.{IsKindSafe}
use Rattle.calls_model.specs.First.Machine.{Cell, Object, HeapObject, New, Frame, State, Event, MethodCall, IsRun}
use Rattle.calls_facts.specs.First.Names.{own_field, new_at, InLocal, OnStack, slot_place, pc_at}
use Rattle.calls_facts.specs.First.Rules.{Has, IsClosed, IsLeast}
use Rattle.calls_facts.specs.First.Covered.{call_fact}
use Rattle.calls_lines.specs.First.Lines.{HasLine, AreLines}

-- a fact has its line among these
abbrev pub IsTold : ObjectClass → List (List ℕ) → Fact → Type 0
IsTold class lines fact = (line : List ℕ) × HasLine class fact line × Contains lines line

-- each of these calls has its line
abbrev pub CallsHaveLines : ObjectClass → List (List ℕ) → List MethodCall → Type 0
CallsHaveLines class lines calls = AllByRecursion (λ call. IsTold class lines (call_fact call)) calls

-- a cell of a place: where it refers to an object that an instruction `new` made, there is the line of
-- that object at that place
abbrev pub CellHasLine : ObjectClass → List (List ℕ) → List HeapObject → Place → Cell → Type 0
CellHasLine class lines heap at cell = (number : ℕ) (o : HeapObject) (method pc : ℕ) → cell ≡ Object number → slice_get heap number ≡ Some o
    → o.making ≡ New method pc → IsTold class lines (Pt at (new_at method pc))

-- the words of a frame, before the instruction that it is at
pub record FrameHasLines (class : ObjectClass) (lines : List (List ℕ)) (heap : List HeapObject) (f : Frame) : Type 0 where
  pub locals : (word : ℕ) (cell : Cell) → f.locals word ≡ Some cell
      → CellHasLine class lines heap (slot_place f.method (pc_at class f.method f.index) (InLocal word)) cell
  pub stack : (word : ℕ) (cell : Cell) → slice_get f.stack word ≡ Some cell
      → CellHasLine class lines heap (slot_place f.method (pc_at class f.method f.index) (OnStack word)) cell

-- each object that the code of the class holds in this state has its line where it stands: in the frames
-- of each thread, in static fields, and in the fields of objects that an instruction `new` made
pub record HeldObjectsHaveLines (class : ObjectClass) (lines : List (List ℕ)) (s : State) : Type 0 where
  pub frames : (thread : ℕ) (frames : List Frame) (f : Frame) → slice_get s.threads thread ≡ Some frames → Contains frames f
      → FrameHasLines class lines s.memory.heap f
  pub statics : (field : ℕ) → CellHasLine class lines s.memory.heap (place.Static (own_field field)) (s.memory.statics field)
  pub fields : (number : ℕ) (o : HeapObject) (method pc field : ℕ) → slice_get s.memory.heap number ≡ Some o → o.making ≡ New method pc
      → CellHasLine class lines s.memory.heap (place.Field (new_at method pc) (own_field field)) (o.fields field)

-- whatever run the class has, each of its calls has its line, and so has each object where it stands after it
abbrev pub LinesCoverAllRuns : ObjectClass → List (List ℕ) → Type 0
LinesCoverAllRuns class lines = (events : List Event) (calls : List MethodCall) (end : State) → IsRun class events calls end
    → CallsHaveLines class lines calls × HeldObjectsHaveLines class lines end

-- lines of closed facts of a class whose methods have their walks of kinds cover all its runs
abbrev pub LinesCoverRuns : Type 0
LinesCoverRuns = (class : ObjectClass) (set : Fact → Bool) (lines : List (List ℕ)) → IsKindSafe class → IsClosed class set
    → AreLines class (Has set) lines → LinesCoverAllRuns class lines

-- the lines are those of the least facts of the class, and cover all its runs
pub record AreClassLines (class : ObjectClass) (lines : List (List ℕ)) : Type 0 where
  pub set : Fact → Bool
  pub least : IsLeast class set
  pub are_lines : AreLines class (Has set) lines
  pub covers : LinesCoverAllRuns class lines
