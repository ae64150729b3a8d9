-- Items of arrays (JVMS 6.5, the loads and stores of arrays). Any index may be taken, since lengths aren't kept.
use Rattle.std.specs.Prelude.{◌≡◌, ℕ, Bool, ◌&&◌, ◌==◌, IsTrue, nat_le, not, List, [], ◌∷◌, Some, slice_get}
use Rattle.std.specs.List.{flat_map}
use Rattle.jv_table.specs.declared.ops.TheConstants.{IALOAD, AALOAD, SALOAD, IASTORE, AASTORE, SASTORE}
use Rattle.jv_types.specs.declared.instruction.Insn.{Insn}
use Rattle.jv_types.specs.declared.shapes.Shape.{Shape}
use Rattle.jv_insn.specs.Effects.{effect_of}
use Rattle.av_states.specs.declared.held.Held.{Held}
use Rattle.av_states.specs.declared.held.Held.TheVariants.{Null, Ref, Word}
use Rattle.av_states.specs.declared.run_type.RunType.{RunType}
use Rattle.av_states.specs.declared.state.CellKey.TheVariants.{Index}
use Rattle.av_states.specs.declared.state.HeapObject.{HeapObject}
use Rattle.av_states.specs.declared.state.State.{State}
use Rattle.av_model.specs.Holding.{item_of, write_object}
use Rattle.av_model.specs.RunTypes.{Fits, IsPrimitiveArray, IsReferenceArray}
use Rattle.av_model.specs.Words.{plain_words}

-- the loads and the stores of items that are numbers
abbrev pub loads_number : ℕ → Bool
loads_number op = (nat_le IALOAD op && nat_le op SALOAD) && not (op == AALOAD)

abbrev pub stores_number : ℕ → Bool
stores_number op = (nat_le IASTORE op && nat_le op SASTORE) && not (op == AASTORE)

-- an array with such items takes what the word holds: null, or an object that fits
pub data TakesItem (w : List Shape) (old : State) (item : RunType) : Held → Type 0 where
  takes_null : TakesItem w old item Null
  takes_object : (number : ℕ) (object : HeapObject) → slice_get old.heap number ≡ Some object → Fits w object.made item → TakesItem w old item (Ref number)

-- The instruction takes these words, and gives those; the index is of the event. References are loaded from and stored
-- to arrays of references, and numbers those of primitives: on null, on another object, and where an object doesn't
-- fit, an instruction only throws.
pub data UsesItem (w : List Shape) (insn : Insn) (taken : List Held) (index : ℕ) (old : State) : List Held → State → Type 0 where
  by_aaload : (number : ℕ) (array : HeapObject) (item : RunType) → insn.op ≡ AALOAD → taken ≡ Ref number ∷ Word ∷ []
      → slice_get old.heap number ≡ Some array → IsReferenceArray array.made item
      → UsesItem w insn taken index old (item_of array index ∷ []) old
  by_aastore : (number : ℕ) (array : HeapObject) (item : RunType) (value : Held) → insn.op ≡ AASTORE → taken ≡ Ref number ∷ Word ∷ value ∷ []
      → slice_get old.heap number ≡ Some array → IsReferenceArray array.made item → TakesItem w old item value
      → UsesItem w insn taken index old [] (write_object old number array (Index index) value)
  by_load : (number : ℕ) (array : HeapObject) (rest : List Held) → IsTrue (loads_number insn.op) → taken ≡ Ref number ∷ rest
      → slice_get old.heap number ≡ Some array → IsPrimitiveArray array.made
      → UsesItem w insn taken index old (flat_map plain_words (effect_of insn).gives) old
  by_store : (number : ℕ) (array : HeapObject) (rest : List Held) → IsTrue (stores_number insn.op) → taken ≡ Ref number ∷ rest
      → slice_get old.heap number ≡ Some array → IsPrimitiveArray array.made
      → UsesItem w insn taken index old [] (write_object old number array (Index index) Word)
