-- Static fields and fields of objects (JVMS 6.5, getstatic, putstatic, getfield and putfield). The field is the one to
-- which the reference resolves.
use Rattle.std.specs.Prelude.{◌≡◌, ℕ, List, [], ◌∷◌, Some, slice_get}
use Rattle.jv_table.specs.declared.ops.TheConstants.{GETSTATIC, PUTSTATIC, GETFIELD, PUTFIELD}
use Rattle.jv_types.specs.declared.ids.FieldId.{FieldId}
use Rattle.jv_types.specs.declared.instruction.Insn.{Insn}
use Rattle.jv_types.specs.declared.shapes.FieldShape.{FieldShape}
use Rattle.jv_types.specs.declared.shapes.Shape.{Shape}
use Rattle.jv_resolve.specs.Members.{IsField}
use Rattle.av_conditions.specs.Members.{RefersToField}
use Rattle.av_states.specs.declared.held.Held.{Held}
use Rattle.av_states.specs.declared.held.Held.TheVariants.{Ref}
use Rattle.av_states.specs.declared.state.CellKey.TheVariants.{Field}
use Rattle.av_states.specs.declared.state.HeapObject.{HeapObject}
use Rattle.av_states.specs.declared.state.State.{State}
use Rattle.av_model.specs.Holding.{field_of, static_of, write_object, write_static}
use Rattle.av_model.specs.Operands.{words_of}
use Rattle.av_model.specs.RunTypes.{IsOfClass}

-- the instruction names this field, which is declared so
pub record NamesField (w : List Shape) (insn : Insn) (field : FieldId) (shape : FieldShape) : Type 0 where
  pub refers : RefersToField w insn field
  pub place : IsField w field shape

-- The instruction takes these words, and gives those. On null it only throws, and so does a write to a field that the
-- object lacks.
pub data UsesField (w : List Shape) (insn : Insn) (taken : List Held) (old : State) : List Held → State → Type 0 where
  by_getstatic : (field : FieldId) (shape : FieldShape) → insn.op ≡ GETSTATIC → NamesField w insn field shape
      → UsesField w insn taken old (words_of shape.desc (static_of old field shape.desc)) old
  by_putstatic : (field : FieldId) (shape : FieldShape) (value : Held) → insn.op ≡ PUTSTATIC → NamesField w insn field shape
      → taken ≡ words_of shape.desc value
      → UsesField w insn taken old [] (write_static old field value)
  by_getfield : (field : FieldId) (shape : FieldShape) (number : ℕ) (object : HeapObject) → insn.op ≡ GETFIELD → NamesField w insn field shape
      → taken ≡ Ref number ∷ [] → slice_get old.heap number ≡ Some object
      → UsesField w insn taken old (words_of shape.desc (field_of object field shape.desc)) old
  by_putfield : (field : FieldId) (shape : FieldShape) (number : ℕ) (object : HeapObject) (value : Held) → insn.op ≡ PUTFIELD
      → NamesField w insn field shape → taken ≡ Ref number ∷ words_of shape.desc value → slice_get old.heap number ≡ Some object
      → IsOfClass w object.made field.class
      → UsesField w insn taken old [] (write_object old number object (Field field) value)
