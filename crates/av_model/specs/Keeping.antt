-- What each step keeps of the objects that were made before it.
use Rattle.std.specs.Prelude.{◌≡◌, ◌++◌, List, map}
use Rattle.jv_types.specs.declared.label.Label.{Label}
use Rattle.av_states.specs.declared.run_type.RunType.{RunType}
use Rattle.av_states.specs.declared.state.HeapObject.{HeapObject}
use Rattle.av_states.specs.declared.state.State.{State}

-- the type and the label of an object
abbrev pub origin_of : HeapObject → RunType × Label
origin_of object = (object.made, object.label)

-- The objects that were made keep their numbers, their types and their labels; others may follow them.
abbrev pub KeepsObjects : State → State → Type 0
KeepsObjects old new = (later : List (RunType × Label)) × (map origin_of new.heap ≡ map origin_of old.heap ++ later)
