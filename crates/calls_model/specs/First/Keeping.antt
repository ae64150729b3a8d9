-- What each run of the machine keeps of its objects.
use Rattle.std.specs.Prelude.{◌≡◌, ℕ, List, Some}
use Rattle.std.specs.List.{slice_get}
use Rattle.calls_form.specs.declared.object_class.ObjectClass.{ObjectClass}
use Rattle.calls_model.specs.First.Machine.{HeapObject, State, Event, MethodCall, Leads}

-- each object of the one heap is in the other, under its number and with its making
pub record KeepsObjects (old new : List HeapObject) : Type 0 where
  pub kept : (number : ℕ) (o : HeapObject) → slice_get old number ≡ Some o
      → (after : HeapObject) × (slice_get new number ≡ Some after) × (after.making ≡ o.making)

-- whatever events follow, an object that is made stays, and keeps its making
abbrev pub RunsKeepObjects : Type 0
RunsKeepObjects = (class : ObjectClass) (old : State) (events : List Event) (calls : List MethodCall) (new : State)
    → Leads class old events calls new → KeepsObjects old.memory.heap new.memory.heap
