-- What collection asks of the application that is handed in.
use Rattle.std.specs.Prelude.{◌≡◌, ℕ, ◌≤◌, true, List, Some, length, slice_get, Contains}
use Rattle.jv_types.specs.declared.instruction.Insn.{Insn}
use Rattle.jv_types.specs.declared.shapes.MethodShape.{MethodShape}
use Rattle.jv_types.specs.declared.shapes.Shape.{Shape}
use Rattle.jv_world.specs.Worlds.{HaveDistinctNames}
use Rattle.jv_names.specs.Spellings.{IsTypeName}
use Rattle.av_collected.specs.declared.method_body.MethodBody.{MethodBody}
use Rattle.av_collected.specs.Libraries.{IsBounded}
use Rattle.av_collected.specs.Naming.{Application, HasInsn, ArgHasDims}

-- the body is that of a method of the application
abbrev pub IsMethodBody : List Shape → MethodBody → Type 0
IsMethodBody app method = (shape : Shape) × (declared : MethodShape) × Contains app shape × (shape.name ≡ method.class) × (slice_get shape.methods method.index ≡ Some declared)

-- At most 20,000 classes of different names, marked as the application's and within the bounds of a class file;
-- codes of their methods whose types have at most 255 dimensions, the array that an anewarray makes included; and
-- class names and array descriptors from stack maps.
pub record AreGiven (given : Application) : Type 0 where
  pub few : length given.shapes ≤ 20000
  pub distinct : HaveDistinctNames given.shapes
  pub marked : (shape : Shape) → Contains given.shapes shape → shape.application ≡ true
  pub bounded : (shape : Shape) → Contains given.shapes shape → IsBounded shape
  pub bodies : (method : MethodBody) → Contains given.bodies method → IsMethodBody given.shapes method
  pub dims : (insn : Insn) (dims : ℕ) → HasInsn given.bodies insn → ArgHasDims insn.op insn.arg dims → dims ≤ 255
  pub maps : (text : List ℕ) → Contains given.maps text → IsTypeName text
