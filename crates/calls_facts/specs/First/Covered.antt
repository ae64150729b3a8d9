-- What facts cover of a run: its calls, and the objects that stand in the words of its frames and in fields.
use Rattle.std.specs.Prelude.{◌≡◌, ℕ, Bool, List, Option, Some, Contains}
use Rattle.std.specs.List.{slice_get, AllByRecursion}
use Rattle.jv_types.specs.declared.ids.MethodId.{MethodId}
use Rattle.jv_types.specs.declared.place.Place.{Place}
use Rattle.jv_types.specs.declared.place.Place.TheVariants as place
use Rattle.jv_types.specs.declared.fact.CallFrom.{CallFrom}
use Rattle.jv_types.specs.declared.fact.CallFrom.TheVariants as from
use Rattle.jv_types.specs.declared.fact.Fact.{Fact}
use Rattle.jv_types.specs.declared.fact.Fact.TheVariants.{Edge, Pt}
use Rattle.calls_form.specs.declared.object_class.ObjectClass.{ObjectClass}
use Rattle.calls_form.specs.Kinds.{IsKindSafe}
use Rattle.calls_model.specs.First.Machine.{Cell, Object, New, HeapObject, Frame, State, Event, Origin, Library, Site, Target, Own, ObjectInit, MethodCall, IsRun}
use Rattle.calls_facts.specs.First.Names.{own, own_field, object_init, new_at, InLocal, OnStack, slot_place, pc_at}
use Rattle.calls_facts.specs.First.Rules.{Has, IsClosed}

abbrev pub origin_of : Origin → CallFrom
origin_of Library = from.Root
origin_of (Site method pc) = from.Site (own method) pc

abbrev pub target_of : Target → MethodId
target_of (Own method) = own method
target_of ObjectInit = object_init

-- the fact of a call
abbrev pub call_fact : MethodCall → Fact
call_fact call = Edge (origin_of call.origin) (target_of call.target)

-- each of these calls has its fact
abbrev pub CallsCovered : (Fact → Bool) → List MethodCall → Type 0
CallsCovered set calls = AllByRecursion (λ call. Has set (call_fact call)) calls

-- a cell of a place: where it refers to an object that an instruction `new` made, that object's label has
-- its fact there
abbrev pub CellCovered : (Fact → Bool) → List HeapObject → Place → Cell → Type 0
CellCovered set heap at cell = (number : ℕ) (o : HeapObject) (method pc : ℕ) → cell ≡ Object number → slice_get heap number ≡ Some o
    → o.making ≡ New method pc → Has set (Pt at (new_at method pc))

-- the words of a frame, before the instruction that it is at
pub record FrameCovered (class : ObjectClass) (set : Fact → Bool) (heap : List HeapObject) (f : Frame) : Type 0 where
  pub locals : (word : ℕ) (cell : Cell) → f.locals word ≡ Some cell
      → CellCovered set heap (slot_place f.method (pc_at class f.method f.index) (InLocal word)) cell
  pub stack : (word : ℕ) (cell : Cell) → slice_get f.stack word ≡ Some cell
      → CellCovered set heap (slot_place f.method (pc_at class f.method f.index) (OnStack word)) cell

-- what stands in a state: in the frames of each thread, in static fields, and in the fields of objects
pub record IsCovered (class : ObjectClass) (set : Fact → Bool) (s : State) : Type 0 where
  pub frames : (thread : ℕ) (frames : List Frame) (f : Frame) → slice_get s.threads thread ≡ Some frames → Contains frames f
      → FrameCovered class set s.memory.heap f
  pub statics : (field : ℕ) → CellCovered set s.memory.heap (place.Static (own_field field)) (s.memory.statics field)
  pub fields : (number : ℕ) (o : HeapObject) (method pc field : ℕ) → slice_get s.memory.heap number ≡ Some o → o.making ≡ New method pc
      → CellCovered set s.memory.heap (place.Field (new_at method pc) (own_field field)) (o.fields field)

-- whatever run the class has, each of its calls has its fact, and so has each object where it stands after it
abbrev pub CoverAllRuns : ObjectClass → (Fact → Bool) → Type 0
CoverAllRuns class set = (events : List Event) (calls : List MethodCall) (end : State) → IsRun class events calls end
    → CallsCovered set calls × IsCovered class set end

-- closed facts of a class whose methods have their walks of kinds cover all its runs
abbrev pub ClosedCover : Type 0
ClosedCover = (class : ObjectClass) (set : Fact → Bool) → IsKindSafe class → IsClosed class set → CoverAllRuns class set
