-- The greatest of numbers of dimensions, and which are spoken of.
use Rattle.std.specs.Prelude.{◌≡◌, ℕ, ◌≤◌, ◌⊎◌, List, Contains}
use Rattle.jv_types.specs.declared.desc.Desc.{Desc}
use Rattle.jv_types.specs.declared.desc.RefType.{RefType}
use Rattle.jv_types.specs.declared.instruction.Insn.{Insn}
use Rattle.jv_types.specs.declared.shapes.FieldShape.{FieldShape}
use Rattle.jv_types.specs.declared.shapes.MethodShape.{MethodShape}
use Rattle.jv_types.specs.declared.shapes.Shape.{Shape}
use Rattle.jv_desc.specs.Texts.{ref_dims}
use Rattle.jv_names.specs.Naming.{IsTypeText}
use Rattle.av_collected.specs.declared.method_body.MethodBody.{MethodBody}
use Rattle.av_collected.specs.Naming.{ArgHasDims}
use Rattle.av_collected.specs.Types.{dims_of, MentionsDims}

-- the greatest number of which P holds, and 1 where there is none or only 0
pub record IsGreatest (P : ℕ → Type 0) (dims : ℕ) : Type 0 where
  pub least : 1 ≤ dims
  pub above : (other : ℕ) → P other → other ≤ dims
  pub reached : (dims ≡ 1) ⊎ P dims

-- P holds of the number and some element of the list
abbrev pub OfSome : {X : Type 0} → (X → ℕ → Type 0) → List X → ℕ → Type 0
OfSome {X} P xs dims = (x : X) × Contains xs x × P x dims

-- no number of which P holds passes 255
abbrev pub AreSmall : (ℕ → Type 0) → Type 0
AreSmall P = (dims : ℕ) → P dims → dims ≤ 255

abbrev pub DescDims : Desc → ℕ → Type 0
DescDims desc dims = dims ≡ dims_of desc

abbrev pub FieldDims : FieldShape → ℕ → Type 0
FieldDims field dims = dims ≡ dims_of field.desc

abbrev pub MethodDims : MethodShape → ℕ → Type 0
MethodDims method dims = MentionsDims method.desc dims

-- a member of the class has a type of so many dimensions in its descriptor
abbrev pub ShapeDims : Shape → ℕ → Type 0
ShapeDims shape dims = OfSome FieldDims shape.fields dims ⊎ OfSome MethodDims shape.methods dims

abbrev pub RowDims : ℕ × Insn → ℕ → Type 0
RowDims row dims = ArgHasDims row.1.op row.1.arg dims

abbrev pub BodyDims : MethodBody → ℕ → Type 0
BodyDims method dims = OfSome RowDims method.body.insns dims

-- the text names a type of so many dimensions
abbrev pub TextDims : List ℕ → ℕ → Type 0
TextDims text dims = (type : RefType) × IsTypeText text type × (dims ≡ ref_dims type)
