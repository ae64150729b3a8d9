-- The first state, and which states are sound: what they name is there, and their lists are in order.
use Rattle.std.specs.Prelude.{ℕ, ◌<◌, false, IsTrue, All, List, [], ◌∷◌, Option, Some, None, length, map}
use Rattle.std.specs.List.Sorted.{IsStrictlyIncreasing}
use Rattle.jv_table.specs.Rows.{rises}
use Rattle.jv_types.specs.declared.frames.FramedBody.{FramedBody}
use Rattle.jv_types.specs.declared.ids.ClassId.{ClassId}
use Rattle.jv_types.specs.declared.ids.FieldId.{FieldId}
use Rattle.jv_types.specs.declared.ids.MethodId.{MethodId}
use Rattle.jv_types.specs.declared.shapes.Shape.{Shape}
use Rattle.jv_resolve.specs.Members.{HasMethod}
use Rattle.av_conditions.specs.Conditions.{IsStart}
use Rattle.av_states.specs.declared.held.Held.{Held}
use Rattle.av_states.specs.declared.held.Held.TheVariants as held
use Rattle.av_states.specs.declared.run_type.RunType.{RunType, Class, Lib, Prim, Array', Row_of-RunType, end_of-RunType, more_of-RunType}
use Rattle.av_states.specs.declared.state.Activation.{Activation}
use Rattle.av_states.specs.declared.state.Activation.TheVariants.{App, Library}
use Rattle.av_states.specs.declared.state.CellKey.{CellKey}
use Rattle.av_states.specs.declared.state.HeapObject.{HeapObject}
use Rattle.av_states.specs.declared.state.State.{State}
use Rattle.av_states.specs.declared.state.ThreadState.{ThreadState}
use Rattle.av_model.specs.Holding.{cell_cmp, field_cmp}

-- Nothing is made or written, the library knows nothing, main isn't entered, and one thread runs in the library.
abbrev pub first_state : MethodId → ℕ → State
first_state main dims = record {
  main = main;
  dims = dims;
  entered = false;
  heap = [];
  statics = [];
  known = [];
  fresh = [];
  threads = record { frames = Library ∷ []; thrown = None } ∷ [];
}

-- ---- what a sound state names

-- an object of the number is made
abbrev pub IsMade : State → ℕ → Type 0
IsMade state number = number < length state.heap

abbrev pub IsSoundHeld : State → Held → Type 0
IsSoundHeld state held.Null = Unit {0}
IsSoundHeld state (held.Ref number) = IsMade state number
IsSoundHeld state held.Word = Unit {0}

-- the classes of a type are of the world, and interfaces are by rising numbers
abbrev pub IsClassHere : List Shape → ClassId → Type 0
IsClassHere w c = c.number < length w

abbrev mutual
  pub IsSoundType : List Shape → RunType → Type 0
  IsSoundType w (Class c) = IsClassHere w c
  IsSoundType w (Lib low ifs) = IsClassHere w low × All (IsClassHere w) ifs × IsStrictlyIncreasing (map (λ (c : ClassId). c.number) ifs)
  IsSoundType w (Prim prim) = Unit {0}
  IsSoundType w (Array' shape items) = AreSoundItems w items

  pub AreSoundItems : List Shape → {m : _} → Row_of-RunType m → Type 0
  AreSoundItems w end_of-RunType = Unit {0}
  AreSoundItems w (more_of-RunType item rest) = IsSoundType w item

pub record IsSoundObject (w : List Shape) (state : State) (object : HeapObject) : Type 0 where
  pub type : IsSoundType w object.made
  pub rise : IsTrue (rises cell_cmp object.cells)
  pub cells : All (λ (row : CellKey × Held). IsSoundHeld state row.1) object.cells

-- the words of a frame are sound, and its method is one of the world
abbrev pub IsSoundFrame : List Shape → State → Activation → Type 0
IsSoundFrame w state Library = Unit {0}
IsSoundFrame w state (App method pc locals stack) = HasMethod w method × All (IsSoundHeld state) locals × All (IsSoundHeld state) stack

abbrev pub IsSoundThrown : State → Option ℕ → Type 0
IsSoundThrown state None = Unit {0}
IsSoundThrown state (Some number) = IsMade state number

pub record IsSoundThread (w : List Shape) (state : State) (thread : ThreadState) : Type 0 where
  pub frames : All (IsSoundFrame w state) thread.frames
  pub thrown : IsSoundThrown state thread.thrown

-- ---- sound states

-- the objects of these numbers are made, and the numbers rise
pub record AreSoundNumbers (state : State) (numbers : List ℕ) : Type 0 where
  pub rise : IsStrictlyIncreasing numbers
  pub made : All (IsMade state) numbers

-- Each reference is to an object that is made, and all lists by keys rise. Its main is as the start has to be, and arrays
-- are told apart by one dimension at least.
pub record IsSoundState (w : List Shape) (methods : List FramedBody) (state : State) : Type 0 where
  pub main : IsStart w methods state.main
  pub dims : 0 < state.dims
  pub heap : All (IsSoundObject w state) state.heap
  pub statics_rise : IsTrue (rises field_cmp state.statics)
  pub statics : All (λ (row : FieldId × Held). IsSoundHeld state row.1) state.statics
  pub known : AreSoundNumbers state state.known
  pub fresh : AreSoundNumbers state state.fresh
  pub threads : All (IsSoundThread w state) state.threads
