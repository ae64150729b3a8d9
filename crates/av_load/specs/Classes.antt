-- What is known of the classes of an application, whatever the host tells.
use Rattle.std.specs.Prelude.{◌≤◌, ℕ, true, List, length, map, nat_eq, Contains}
use Rattle.std.specs.List.{IsDistinct}
use Rattle.std.specs.Cmp.Lexicographic.{pointwise}
use Rattle.jv_class.specs.ClassTexts.{ClassText}
use Rattle.jv_class.specs.Shapes.{IsShapeOf}
use Rattle.av_app_files.specs.FileRules.{HasReservedName, HasWrongVersion}
use Rattle.av_load.specs.declared.app_class.AppClass.{AppClass}

-- a class is that of some class file, of an accepted version and of no reserved name, and this is its shape
pub record IsAppClass (class : AppClass) : Type 0 where
  pub bytes : List ℕ
  pub text : ClassText class.file bytes
  pub version : ¬ HasWrongVersion class.file
  pub free : ¬ HasReservedName class.file
  pub shape : IsShapeOf class.file true class.shape

-- the classes of an application: no more than it may have files, and no two of one name
pub record AreClasses (classes : List AppClass) : Type 0 where
  pub few : length classes ≤ 20000
  pub each : (class : AppClass) → Contains classes class → IsAppClass class
  pub distinct : IsDistinct (pointwise nat_eq) (map (λ class. class.shape.name) classes)
