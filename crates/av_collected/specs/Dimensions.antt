-- The greatest number of dimensions of an array that an application, or the members collected for it, speak of.
use Rattle.std.specs.Prelude.{◌≡◌, ℕ, ◌≤◌, ◌⊎◌, List, Contains}
use Rattle.jv_types.specs.declared.desc.RefType.{RefType}
use Rattle.jv_types.specs.declared.instruction.Insn.{Insn}
use Rattle.jv_types.specs.declared.shapes.FieldShape.{FieldShape}
use Rattle.jv_types.specs.declared.shapes.MethodShape.{MethodShape}
use Rattle.jv_types.specs.declared.shapes.Shape.{Shape}
use Rattle.jv_desc.specs.Texts.{ref_dims}
use Rattle.jv_names.specs.Naming.{IsTypeText}
use Rattle.av_collected.specs.Libraries.{LibraryFile, HasFieldAt, HasMethodAt}
use Rattle.av_collected.specs.Naming.{Application, HasInsn, ArgHasDims}
use Rattle.av_collected.specs.Rules.{FieldAt, MethodAt, IsCollected}
use Rattle.av_collected.specs.Types.{dims_of, MentionsDims}

-- a type of so many dimensions is spoken of
pub data HasDims (given : Application) (library : List LibraryFile) : ℕ → Type 0 where
  -- in an instruction: its Class item, the descriptor of its member, or what anewarray and multianewarray make
  of_instruction : (insn : Insn) (dims : ℕ) → HasInsn given.bodies insn → ArgHasDims insn.op insn.arg dims → HasDims given library dims
  -- in a descriptor of the application
  of_field : (shape : Shape) (field : FieldShape) (dims : ℕ)
      → Contains given.shapes shape → Contains shape.fields field → dims ≡ dims_of field.desc → HasDims given library dims
  of_method : (shape : Shape) (method : MethodShape) (dims : ℕ)
      → Contains given.shapes shape → Contains shape.methods method → MentionsDims method.desc dims → HasDims given library dims
  -- in a stack map
  of_map : (text : List ℕ) (type : RefType) (dims : ℕ)
      → Contains given.maps text → IsTypeText text type → dims ≡ ref_dims type → HasDims given library dims
  -- in the descriptor of a collected member
  of_collected_field : (class : List ℕ) (place : ℕ) (field : FieldShape) (dims : ℕ)
      → IsCollected given library (FieldAt class place) → HasFieldAt library class place field → dims ≡ dims_of field.desc
      → HasDims given library dims
  of_collected_method : (class : List ℕ) (place : ℕ) (method : MethodShape) (dims : ℕ)
      → IsCollected given library (MethodAt class place) → HasMethodAt library class place method → MentionsDims method.desc dims
      → HasDims given library dims

-- the greatest such number, and at least 1
pub record AreGreatestDims (given : Application) (library : List LibraryFile) (dims : ℕ) : Type 0 where
  pub least : 1 ≤ dims
  pub above : (other : ℕ) → HasDims given library other → other ≤ dims
  pub reached : (dims ≡ 1) ⊎ HasDims given library dims
