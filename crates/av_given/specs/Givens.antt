-- What collection is given, as the definition of collection has it.
use Rattle.std.specs.Prelude.{true, List, Contains}
use Rattle.std.specs.List.{AllZip}
use Rattle.jv_types.specs.declared.shapes.Shape.{Shape}
use Rattle.jv_class.specs.declared.class_file.ClassFile.{ClassFile}
use Rattle.jv_class.specs.Shapes.{IsShapeOf}
use Rattle.av_collected.specs.Naming.{Application}
use Rattle.av_stops.specs.Programs.{IsOfFile}
use Rattle.av_given.specs.declared.given.Given.{Given}

-- the application of these shapes, texts and codes
abbrev pub application_of : Given → Application
application_of given = record { shapes = given.shapes; maps = given.maps; bodies = given.bodies }

-- each class is that of a file
pub record AreOfFiles (classes : List ClassFile) : Type 0 where
  pub texts : (class : ClassFile) → Contains classes class → IsOfFile class

-- so it is, and these are the shapes of the application's classes in their order
pub record AreShaped (classes : List ClassFile) (shapes : List Shape) : Type 0 where
  pub of_files : AreOfFiles classes
  pub stated : AllZip (λ class shape. IsShapeOf class true shape) classes shapes
