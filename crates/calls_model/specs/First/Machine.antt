-- The machine of one class with fields and instance methods, on any number of threads: its state, its
-- events, and the calls that a run makes (JVMS 2.5, 2.6, 6.5). An int's value isn't kept.
use Rattle.std.specs.Prelude.{◌≡◌, ℕ, suc, Bool, true, false, ◌==◌, if◌then◌else◌, List, [], ◌∷◌, ◌++◌, length, slice_set, Option, Some, None, codes, Contains}
use Rattle.std.specs.List.{slice_get, AllZip}
use Rattle.calls_form.specs.declared.object_class.Kind.{Kind}
use Rattle.calls_form.specs.declared.object_class.Kind.TheVariants as kind
use Rattle.calls_form.specs.declared.object_class.Instruction.{Instruction}
use Rattle.calls_form.specs.declared.object_class.Instruction.TheVariants as op
use Rattle.calls_form.specs.declared.object_class.Placed.{Placed}
use Rattle.calls_form.specs.declared.object_class.Field.{Field}
use Rattle.calls_form.specs.declared.object_class.Method.{Method}
use Rattle.calls_form.specs.declared.object_class.ObjectClass.{ObjectClass}
use Rattle.calls_form.specs.Flags.{IsPublic, IsStatic}
use Rattle.calls_form.specs.Kinds.{result_kinds}
use Rattle.calls_form.specs.Descriptors.{main_desc}

-- ---- the state

-- what a word of the locals or of the stack, or a field, has: null, an int, or a reference to an object
-- by its number
pub data Cell : Type 0 where
  Null : Cell
  Int : Cell
  Object : (number : ℕ) → Cell

-- where an object comes from: the library made it as main's array of arguments, or the instruction `new`
-- at this offset of the method at this place did
pub data Making : Type 0 where
  Arguments : Making
  New : (method : ℕ) → (pc : ℕ) → Making

-- an object, and what each of its fields has, by the field's place
pub record HeapObject : Type 0 where
  pub making : Making
  pub fields : ℕ → Cell

-- a method that is entered: its place, the index in its code of the instruction that it is at, its
-- locals, of which some are unset, and its stack from the bottom
pub record Frame : Type 0 where
  pub method : ℕ
  pub index : ℕ
  pub locals : ℕ → Option Cell
  pub stack : List Cell

-- what the threads share: the objects by number, the static fields by place, and the objects on which
-- the constructor of java/lang/Object was called
pub record Memory : Type 0 where
  pub heap : List HeapObject
  pub statics : ℕ → Cell
  pub finalizable : List ℕ

-- a thread is its frames, the last one first
pub record State : Type 0 where
  pub entered : Bool
  pub memory : Memory
  pub threads : List (List Frame)

-- ---- events and calls

-- main is entered; finalize is entered on an object, by a new thread; a thread does its instruction, or
-- ends it by a throw
pub data Event : Type 0 where
  Main : Event
  Finalize : (object : ℕ) → Event
  Go : (thread : ℕ) → Event
  Throw : (thread : ℕ) → Event

-- where a call comes from: the library, or the instruction at this offset of the method at this place
pub data Origin : Type 0 where
  Library : Origin
  Site : (method : ℕ) → (pc : ℕ) → Origin

-- what a call enters: the method at this place, or the library, whose only method here is the
-- constructor of java/lang/Object
pub data Target : Type 0 where
  Own : (method : ℕ) → Target
  ObjectInit : Target

pub record MethodCall : Type 0 where
  pub origin : Origin
  pub target : Target

-- ---- the class

-- the method at a place has this instruction at this index of its code
abbrev pub InstructionAt : ObjectClass → ℕ → ℕ → Placed → Type 0
InstructionAt class place index p = (m : Method) × (slice_get class.methods place ≡ Some m) × (slice_get m.code index ≡ Some p)

-- the class's own public static main, with the array of arguments (JVMS 5.2)
abbrev pub IsMain : ObjectClass → ℕ → Type 0
IsMain class place =
    (m : Method) × (slice_get class.methods place ≡ Some m) × (m.name ≡ codes "main") × (m.desc ≡ main_desc)
    × IsPublic m.access × IsStatic m.access

-- the class's own finalizer, which the library may call (JLS 12.6)
abbrev pub IsFinalize : ObjectClass → ℕ → Type 0
IsFinalize class place =
    (m : Method) × (slice_get class.methods place ≡ Some m) × (m.name ≡ codes "finalize") × (m.desc ≡ codes "()V") × ¬ IsStatic m.access

-- how many words a call of the method at a place takes, the receiver among them
abbrev pub argument_count : ObjectClass → ℕ → ℕ
argument_count class place = elim (slice_get class.methods place) [ None ↦ 0 | Some m ↦ length m.arguments ]

-- the instruction is a call of the method at this place
abbrev pub Invokes : Instruction → ℕ → Type 0
Invokes (op.InvokeVirtual to) place = to ≡ place
Invokes (op.InvokeSpecial to) place = to ≡ place
Invokes (op.InvokeStatic to) place = to ≡ place
Invokes _ place = ⊥

-- ---- cells

-- the cell is of the kind
abbrev pub Fits : Kind → Cell → Type 0
Fits kind.Word Int = Unit {0}
Fits kind.Word Null = ⊥
Fits kind.Word (Object number) = ⊥
Fits kind.Reference Int = ⊥
Fits kind.Reference Null = Unit {0}
Fits kind.Reference (Object number) = Unit {0}

-- what a field has before it is written (JVMS 2.3, 2.4)
abbrev pub zero_of : Kind → Cell
zero_of kind.Word = Int
zero_of kind.Reference = Null

abbrev pub zero_field : ObjectClass → ℕ → Cell
zero_field class place = elim (slice_get class.fields place) [ None ↦ Null | Some x ↦ zero_of x.kind ]

-- the cell is of the kind of the field at a place
abbrev pub FitsField : ObjectClass → ℕ → Cell → Type 0
FitsField class place cell = (x : Field) × (slice_get class.fields place ≡ Some x) × Fits x.kind cell

-- the cells by place, with one of them written
abbrev pub put : (ℕ → Cell) → ℕ → Cell → ℕ → Cell
put cells place cell = λ n. if n == place then cell else cells n

-- the locals, with one of them written
abbrev pub put_local : (ℕ → Option Cell) → ℕ → Cell → ℕ → Option Cell
put_local locals local cell = λ n. if n == local then Some cell else locals n

-- the object with this number is one of the class
abbrev pub IsOwnObject : List HeapObject → ℕ → HeapObject → Type 0
IsOwnObject heap number o = (slice_get heap number ≡ Some o) × ((method : ℕ) × (pc : ℕ) × (o.making ≡ New method pc))

-- ---- one instruction

-- a method is entered at its first instruction, with these words in its first locals
abbrev pub enter : ℕ → List Cell → Frame
enter place words = record { method = place; index = 0; locals = λ n. slice_get words n; stack = [] }

-- the frame goes on to its next instruction with this stack
abbrev pub next : Frame → List Cell → Frame
next f stack = record { method = f.method; index = suc f.index; locals = f.locals; stack = stack }

-- the same, with one local written
abbrev pub next_stored : Frame → ℕ → Cell → List Cell → Frame
next_stored f local cell stack = record { method = f.method; index = suc f.index; locals = put_local f.locals local cell; stack = stack }

-- what an instruction leaves: the calls that it makes, the memory, and the frames of its thread
pub record Outcome : Type 0 where
  pub calls : List MethodCall
  pub memory : Memory
  pub frames : List Frame

-- no call is made, and this frame stands over those below
abbrev pub quiet : Memory → Frame → List Frame → Outcome
quiet memory f below = record { calls = []; memory = memory; frames = f ∷ below }

-- a call of the method at a place on the words on top of the stack: it is entered on them, and the
-- caller waits at its instruction
abbrev pub Calls : ObjectClass → Memory → Frame → ℕ → List Frame → ℕ → List Cell → Outcome → Type 0
Calls class memory f pc below place words out =
    (m : Method) × (rest : List Cell) × (slice_get class.methods place ≡ Some m) × (f.stack ≡ rest ++ words)
    × AllZip Fits m.arguments words
    × (out ≡ record {
      calls = record { origin = Site f.method pc; target = Own place } ∷ [];
      memory = memory;
      frames = enter place words ∷ f ∷ below;
    })

-- a call on a receiver that is an object of the class, which has the method itself (JVMS 6.5)
abbrev pub Sends : ObjectClass → Memory → Frame → ℕ → List Frame → ℕ → Outcome → Type 0
Sends class memory f pc below place out =
    (number : ℕ) × (o : HeapObject) × (words : List Cell) × IsOwnObject memory.heap number o
    × Calls class memory f pc below place (Object number ∷ words) out

-- the caller goes on behind its call, with this result in the place of the words that the call took
abbrev pub GoesBack : ObjectClass → List Frame → List Cell → List Frame → Type 0
GoesBack class [] result after = after ≡ []
GoesBack class (g ∷ below) result after =
    (p : Placed) × (place : ℕ) × (rest : List Cell) × (words : List Cell) × InstructionAt class g.method g.index p
    × Invokes p.instruction place × (g.stack ≡ rest ++ words) × (length words ≡ argument_count class place)
    × (after ≡ next g (rest ++ result) ∷ below)

-- the frame is dropped, and the caller gets this result
abbrev pub Leaves : ObjectClass → Memory → List Frame → List Cell → Outcome → Type 0
Leaves class memory below result out =
    (after : List Frame) × GoesBack class below result after × (out ≡ record { calls = []; memory = memory; frames = after })

-- what the instruction at pc of the frame f does, over the frames below. Where it lacks a word, finds one
-- of the other kind, or finds null or the array of arguments in the place of an object of the class, it
-- can only throw
abbrev pub Does : ObjectClass → Instruction → ℕ → Memory → Frame → List Frame → Outcome → Type 0
Does class op.Nop pc memory f below out = out ≡ quiet memory (next f f.stack) below
Does class op.PushNull pc memory f below out = out ≡ quiet memory (next f (f.stack ++ Null ∷ [])) below
Does class op.PushWord pc memory f below out = out ≡ quiet memory (next f (f.stack ++ Int ∷ [])) below
Does class (op.Load kind local) pc memory f below out =
    (cell : Cell) × (f.locals local ≡ Some cell) × Fits kind cell × (out ≡ quiet memory (next f (f.stack ++ cell ∷ [])) below)
Does class (op.Store kind local) pc memory f below out =
    (rest : List Cell) × (cell : Cell) × (f.stack ≡ rest ++ cell ∷ []) × Fits kind cell × (out ≡ quiet memory (next_stored f local cell rest) below)
Does class op.Pop pc memory f below out =
    (rest : List Cell) × (cell : Cell) × (f.stack ≡ rest ++ cell ∷ []) × (out ≡ quiet memory (next f rest) below)
Does class op.Dup pc memory f below out =
    (rest : List Cell) × (cell : Cell) × (f.stack ≡ rest ++ cell ∷ []) × (out ≡ quiet memory (next f (rest ++ cell ∷ cell ∷ [])) below)
Does class op.Combine pc memory f below out =
    (rest : List Cell) × (f.stack ≡ rest ++ Int ∷ Int ∷ []) × (out ≡ quiet memory (next f (rest ++ Int ∷ [])) below)
Does class op.Negate pc memory f below out =
    (rest : List Cell) × (f.stack ≡ rest ++ Int ∷ []) × (out ≡ quiet memory (next f (rest ++ Int ∷ [])) below)
Does class (op.GetStatic place) pc memory f below out = out ≡ quiet memory (next f (f.stack ++ memory.statics place ∷ [])) below
Does class (op.PutStatic place) pc memory f below out =
    (rest : List Cell) × (cell : Cell) × (f.stack ≡ rest ++ cell ∷ []) × FitsField class place cell
    × (out ≡ quiet (record memory { statics = put memory.statics place cell }) (next f rest) below)
Does class (op.GetField place) pc memory f below out =
    (rest : List Cell) × (number : ℕ) × (o : HeapObject) × (f.stack ≡ rest ++ Object number ∷ []) × IsOwnObject memory.heap number o
    × (out ≡ quiet memory (next f (rest ++ o.fields place ∷ [])) below)
Does class (op.PutField place) pc memory f below out =
    (rest : List Cell) × (number : ℕ) × (cell : Cell) × (o : HeapObject) × (f.stack ≡ rest ++ Object number ∷ cell ∷ [])
    × IsOwnObject memory.heap number o × FitsField class place cell
    × (out ≡ quiet (record memory { heap = slice_set memory.heap number (record o { fields = put o.fields place cell }) }) (next f rest) below)
Does class (op.InvokeVirtual place) pc memory f below out = Sends class memory f pc below place out
Does class (op.InvokeSpecial place) pc memory f below out = Sends class memory f pc below place out
Does class (op.InvokeStatic place) pc memory f below out = (words : List Cell) × Calls class memory f pc below place words out
-- the library's constructor returns at once, and the object may be finalized from then on
Does class op.InvokeObjectInit pc memory f below out =
    (rest : List Cell) × (number : ℕ) × (o : HeapObject) × (f.stack ≡ rest ++ Object number ∷ []) × IsOwnObject memory.heap number o
    × (out ≡ record {
      calls = record { origin = Site f.method pc; target = ObjectInit } ∷ [];
      memory = record memory { finalizable = number ∷ memory.finalizable };
      frames = next f rest ∷ below;
    })
Does class op.New pc memory f below out =
    out ≡ quiet (record memory { heap = memory.heap ++ record { making = New f.method pc; fields = zero_field class } ∷ [] })
    (next f (f.stack ++ Object (length memory.heap) ∷ [])) below
Does class (op.Return result) pc memory f below out =
    (rest : List Cell) × (words : List Cell) × (f.stack ≡ rest ++ words) × AllZip Fits (result_kinds result) words × Leaves class memory below words out

-- ---- runs

-- from old, the event may lead to new, and it makes these calls
abbrev pub Step : ObjectClass → State → Event → List MethodCall → State → Type 0
-- main is entered once, by the first thread, on an array that the library made
Step class old Main calls new =
    (place : ℕ) × IsMain class place × (old.entered ≡ false)
    × (calls ≡ record { origin = Library; target = Own place } ∷ [])
    × (new ≡ record {
      entered = true;
      memory = record {
        heap = old.memory.heap ++ record { making = Arguments; fields = λ _. Null } ∷ [];
        statics = old.memory.statics;
        finalizable = old.memory.finalizable;
      };
      threads = slice_set old.threads 0 (enter place (Object (length old.memory.heap) ∷ []) ∷ []);
    })
-- a thread begins, which enters the finalizer on an object that may be finalized
Step class old (Finalize object) calls new =
    (place : ℕ) × IsFinalize class place × Contains old.memory.finalizable object
    × (calls ≡ record { origin = Library; target = Own place } ∷ [])
    × (new ≡ record {
      entered = old.entered;
      memory = old.memory;
      threads = old.threads ++ (enter place (Object object ∷ []) ∷ []) ∷ [];
    })
-- the last frame's instruction is done
Step class old (Go thread) calls new =
    (f : Frame) × (below : List Frame) × (p : Placed) × (out : Outcome) × (slice_get old.threads thread ≡ Some (f ∷ below))
    × InstructionAt class f.method f.index p × Does class p.instruction p.pc old.memory f below out
    × (calls ≡ out.calls)
    × (new ≡ record { entered = old.entered; memory = out.memory; threads = slice_set old.threads thread out.frames })
-- a throwable drops every frame of the thread, since no method has a handler
Step class old (Throw thread) calls new =
    (f : Frame) × (below : List Frame) × (slice_get old.threads thread ≡ Some (f ∷ below))
    × (calls ≡ []) × (new ≡ record { entered = old.entered; memory = old.memory; threads = slice_set old.threads thread [] })

-- these events lead from old to new, and make these calls in order
abbrev pub Leads : ObjectClass → State → List Event → List MethodCall → State → Type 0
Leads class old [] calls new = (calls ≡ []) × (new ≡ old)
Leads class old (event ∷ events) calls new =
    (mid : State) × (now : List MethodCall) × (later : List MethodCall)
    × Step class old event now mid × Leads class mid events later new × (calls ≡ now ++ later)

-- nothing is made, main isn't entered, and the first thread has no frame
abbrev pub start : ObjectClass → State
start class = record {
  entered = false;
  memory = record { heap = []; statics = zero_field class; finalizable = [] };
  threads = [] ∷ [];
}

-- the events are a run of the class, these are the calls that it makes, and this is the state after it
abbrev pub IsRun : ObjectClass → List Event → List MethodCall → State → Type 0
IsRun class events calls end = Leads class (start class) events calls end
