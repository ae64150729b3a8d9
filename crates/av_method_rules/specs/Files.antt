-- Class files, and the classes of a world that they state.
use Rattle.std.specs.Prelude.{◌≡◌, ◌++◌, ℕ, true, List, Some, slice_get, Contains}
use Rattle.std.specs.List.{AllZip}
use Rattle.jv_types.specs.declared.ids.MethodId.{MethodId}
use Rattle.jv_types.specs.declared.shapes.Shape.{Shape}
use Rattle.jv_pool.specs.Lookups.{text_at, class_name_at}
use Rattle.jv_class.specs.declared.class_file.ClassFile.{ClassFile}
use Rattle.jv_class.specs.declared.class_file.Member.{Member}
use Rattle.jv_class.specs.Shapes.{IsShapeOf}
use Rattle.av_stops.specs.Programs.{IsOfFile}

-- a world begins with the classes of these files, in their order
pub record AreFilesOf (w : List Shape) (classes : List ClassFile) : Type 0 where
  pub texts : (class : ClassFile) → Contains classes class → IsOfFile class
  pub shapes : List Shape
  pub others : List Shape
  pub world : w ≡ shapes ++ others
  pub stated : AllZip (λ class shape. IsShapeOf class true shape) classes shapes

-- the class is that of a file, the world has what it states under the number of this method's class, and this is
-- the method in the file
pub record IsMethodOfFile (w : List Shape) (class : ClassFile) (id : MethodId) (member : Member) : Type 0 where
  pub of_file : IsOfFile class
  pub shape : Shape
  pub here : slice_get w id.class.number ≡ Some shape
  pub stated : IsShapeOf class true shape
  pub at_place : slice_get class.methods id.index ≡ Some member

-- the class, the name and the descriptor of a method have texts
pub record HasTexts (class : ClassFile) (member : Member) : Type 0 where
  pub class_name : List ℕ
  pub named : class_name_at class.pool class.this_class ≡ Some class_name
  pub name : List ℕ
  pub called : text_at class.pool member.name ≡ Some name
  pub desc : List ℕ
  pub described : text_at class.pool member.desc ≡ Some desc
