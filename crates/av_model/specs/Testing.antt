-- Instructions that ask something of an object and change none (JVMS 6.5, arraylength, checkcast, instanceof,
-- monitorenter and monitorexit). A monitor never makes a thread wait here.
use Rattle.std.specs.Prelude.{◌≡◌, ℕ, ◌⊎◌, List, [], ◌∷◌, Some, slice_get}
use Rattle.jv_table.specs.declared.ops.TheConstants.{ARRAYLENGTH, CHECKCAST, INSTANCEOF, MONITORENTER, MONITOREXIT}
use Rattle.jv_types.specs.declared.desc.RefType.{RefType}
use Rattle.jv_types.specs.declared.instruction.Arg.TheVariants as args
use Rattle.jv_types.specs.declared.instruction.Insn.{Insn}
use Rattle.jv_types.specs.declared.shapes.Shape.{Shape}
use Rattle.av_states.specs.declared.held.Held.{Held}
use Rattle.av_states.specs.declared.held.Held.TheVariants.{Null, Ref, Word}
use Rattle.av_states.specs.declared.state.HeapObject.{HeapObject}
use Rattle.av_states.specs.declared.state.State.{State}
use Rattle.av_model.specs.RunTypes.{IsInstance}

-- what the word holds may be cast to the type: null, or an instance of it
pub data PassesCast (w : List Shape) (old : State) (type : RefType) : Held → Type 0 where
  passes_null : PassesCast w old type Null
  passes_object : (number : ℕ) (object : HeapObject) → slice_get old.heap number ≡ Some object → IsInstance w object.made type → PassesCast w old type (Ref number)

-- The instruction takes these words, and gives those. The length of null, its monitor, and a cast that fails only throw.
pub data TestsObject (w : List Shape) (insn : Insn) (taken : List Held) (old : State) : List Held → Type 0 where
  by_arraylength : (number : ℕ) → insn.op ≡ ARRAYLENGTH → taken ≡ Ref number ∷ [] → TestsObject w insn taken old (Word ∷ [])
  by_monitor : (number : ℕ) → (insn.op ≡ MONITORENTER) ⊎ (insn.op ≡ MONITOREXIT) → taken ≡ Ref number ∷ [] → TestsObject w insn taken old []
  by_checkcast : (type : RefType) (value : Held) → insn.op ≡ CHECKCAST → insn.arg ≡ args.Class type → taken ≡ value ∷ [] → PassesCast w old type value
      → TestsObject w insn taken old (value ∷ [])
  by_instanceof : (type : RefType) (value : Held) → insn.op ≡ INSTANCEOF → insn.arg ≡ args.Class type → taken ≡ value ∷ []
      → TestsObject w insn taken old (Word ∷ [])
