-- One step of a thread whose last frame is the application's: an instruction, or what is thrown on its way
-- (JVMS 2.11, 6.5).
use Rattle.std.specs.Prelude.{◌≡◌, ℕ, IsTrue, List, [], ◌∷◌, ◌++◌, Option, None, Some, length, slice_get, Contains}
use Rattle.jv_table.specs.declared.ops.TheConstants.{ATHROW}
use Rattle.jv_types.specs.Bodies.{IsNextStart}
use Rattle.jv_types.specs.declared.frames.FramedBody.{FramedBody}
use Rattle.jv_types.specs.declared.instruction.Insn.{Insn}
use Rattle.jv_types.specs.declared.shapes.Shape.{Shape}
use Rattle.jv_insn.specs.Effects.{is_return}
use Rattle.av_conditions.specs.Initialisers.{MayEnter}
use Rattle.av_states.specs.declared.event.Choice.{Choice}
use Rattle.av_states.specs.declared.event.Choice.TheVariants.{Go, Multi, Raise, Init, Unwind}
use Rattle.av_states.specs.declared.held.Held.{Held}
use Rattle.av_states.specs.declared.held.Held.TheVariants.{Ref}
use Rattle.av_states.specs.declared.run_type.RunType.{RunType}
use Rattle.av_states.specs.declared.state.Activation.{Activation}
use Rattle.av_states.specs.declared.state.HeapObject.{HeapObject}
use Rattle.av_states.specs.declared.state.State.{State}
use Rattle.av_model.specs.Calling.{Callee, Enters, Runs}
use Rattle.av_model.specs.Elements.{UsesItem}
use Rattle.av_model.specs.Events.{MethodCall, FromSite, IntoMethod, Target}
use Rattle.av_model.specs.Fields.{UsesField}
use Rattle.av_model.specs.Holding.{make_known}
use Rattle.av_model.specs.Making.{LoadsConstant, MakesNested, MakesOne}
use Rattle.av_model.specs.Operands.{HasOperands}
use Rattle.av_model.specs.Raising.{IsUncaught, MakesThrowable, Unwinds}
use Rattle.av_model.specs.Returning.{EnteredByInsn, Returns}
use Rattle.av_model.specs.RunTypes.{IsThrowable}
use Rattle.av_model.specs.Spots.{Spot, GoesTo, IsInsnAt, StandsAt, entered, frame_of, goes_on, set_thread}
use Rattle.av_model.specs.Testing.{TestsObject}
use Rattle.av_model.specs.Words.{MovesWords}

-- what a step leaves: the calls that it makes, the state with all but its thread as it is then, and the thread's frames
-- and what it throws
pub record Outcome : Type 0 where
  pub calls : List MethodCall
  pub state : State
  pub frames : List Activation
  pub thrown : Option ℕ

-- no call is made, and nothing is thrown
abbrev pub quiet : State → List Activation → Outcome
quiet state frames = record { calls = []; state = state; frames = frames; thrown = None }

-- ---- one instruction

-- The instruction takes these words and gives those, and then goes on in its method; the state is changed so. An index
-- that it has no use for is 0.
pub data Does (w : List Shape) (spot : Spot) (insn : Insn) (taken : List Held) (index : ℕ) (old : State) : List Held → State → Type 0 where
  moves_words : (given : List Held) → index ≡ 0 → MovesWords insn given → Does w spot insn taken index old given old
  loads_constant : (given : List Held) (new : State) → LoadsConstant w insn index old given new → Does w spot insn taken index old given new
  uses_field : (given : List Held) (new : State) → index ≡ 0 → UsesField w insn taken old given new → Does w spot insn taken index old given new
  uses_item : (given : List Held) (new : State) → UsesItem w insn taken index old given new → Does w spot insn taken index old given new
  makes_one : (given : List Held) (new : State) → index ≡ 0 → MakesOne w spot insn old given new → Does w spot insn taken index old given new
  tests_object : (given : List Held) → index ≡ 0 → TestsObject w insn taken old given → Does w spot insn taken index old given old

-- an instruction at a spot, over these frames, with its operands, does what is chosen
pub data Performs (w : List Shape) (methods : List FramedBody) (below : List Activation) (spot : Spot) (insn : Insn) (taken : List Held) (old : State) : Choice → Outcome → Type 0 where
  goes_on_in_frame : (branch index : ℕ) (given : List Held) (mid : State) (to : ℕ) → Does w spot insn taken index old given mid → GoesTo spot insn branch to
      → Performs w methods below spot insn taken old (Go branch index) (quiet mid (below ++ goes_on spot insn given to ∷ []))
  makes_nested : (numbers : List ℕ) (given : List Held) (mid : State) (to : ℕ) → MakesNested w spot insn numbers old given mid
      → IsNextStart spot.pc spot.framed.body.insns to
      → Performs w methods below spot insn taken old (Multi numbers) (quiet mid (below ++ goes_on spot insn given to ∷ []))
  calls : (callee : Callee) (target : Target) (top : List Activation) (mid : State) → Runs w spot insn taken old callee
      → Enters w methods spot insn taken old callee target top mid
      → Performs w methods below spot insn taken old (Go 0 0) (record {
        calls = record { origin = FromSite spot.framed.method spot.pc; target = target } ∷ [];
        state = mid;
        frames = below ++ top;
        thrown = None;
      })
  returns : (frames : List Activation) (mid : State) → IsTrue (is_return insn.op) → Returns w methods spot.framed.method taken old below frames mid
      → Performs w methods below spot insn taken old (Go 0 0) (quiet mid frames)
  throws : (number : ℕ) (object : HeapObject) → insn.op ≡ ATHROW → taken ≡ Ref number ∷ [] → slice_get old.heap number ≡ Some object
      → IsThrowable w object.made
      → Performs w methods below spot insn taken old (Go 0 0) (record { calls = []; state = old; frames = below ++ frame_of spot ∷ []; thrown = Some number })
  initialises : (framed : FramedBody) → MayEnter w insn framed.method → Contains methods framed
      → Performs w methods below spot insn taken old (Init framed.method) (record {
        calls = record { origin = FromSite spot.framed.method spot.pc; target = IntoMethod framed.method } ∷ [];
        state = old;
        frames = below ++ frame_of spot ∷ entered framed [] ∷ [];
        thrown = None;
      })

-- ---- one step

-- From this state, the thread may do what is chosen. An instruction that finds its operands is done. Any instruction, also
-- one that is wanting, may throw a new object of the library's instead. Where an object is thrown the frame is unwound;
-- an instruction that entered an initialiser, which a throwable leaves, may throw a new object instead of that one.
pub data Steps (w : List Shape) (methods : List FramedBody) (old : State) (thread : ℕ) : Choice → Outcome → Type 0 where
  by_insn : (below : List Activation) (spot : Spot) (insn : Insn) (taken : List Held) (choice : Choice) (out : Outcome)
      → StandsAt methods old thread None below spot → IsInsnAt spot insn → HasOperands insn spot.words taken
      → Performs w methods below spot insn taken old choice out
      → Steps w methods old thread choice out
  by_raise : (below : List Activation) (spot : Spot) (insn : Insn) (type : RunType) (mid : State)
      → StandsAt methods old thread None below spot → IsInsnAt spot insn → MakesThrowable w type old mid
      → Steps w methods old thread (Raise type) (record { calls = []; state = mid; frames = below ++ frame_of spot ∷ []; thrown = Some (length old.heap) })
  by_unwind : (below : List Activation) (spot : Spot) (number : ℕ) (object : HeapObject) (frames : List Activation) (thrown : Option ℕ) (mid : State)
      → StandsAt methods old thread (Some number) below spot → slice_get old.heap number ≡ Some object
      → Unwinds w below spot number object.made old frames thrown mid
      → Steps w methods old thread Unwind (record { calls = []; state = mid; frames = frames; thrown = thrown })
  by_raise_instead : (below : List Activation) (spot : Spot) (number : ℕ) (object : HeapObject) (type : RunType) (mid : State)
      → StandsAt methods old thread (Some number) below spot → slice_get old.heap number ≡ Some object
      → IsUncaught w spot object.made → EnteredByInsn w spot.framed.method below
      → MakesThrowable w type (make_known old (Ref number)) mid
      → Steps w methods old thread (Raise type) (record { calls = []; state = mid; frames = below; thrown = Some (length old.heap) })

-- the thread may do what is chosen, which makes these calls and leads to the new state
pub record AppStep (w : List Shape) (methods : List FramedBody) (old : State) (thread : ℕ) (choice : Choice) (calls : List MethodCall) (new : State) : Type 0 where
  pub out : Outcome
  pub steps : Steps w methods old thread choice out
  pub calls_are : calls ≡ out.calls
  pub after : new ≡ set_thread out.state thread out.frames out.thrown
