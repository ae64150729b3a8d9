-- What is known of a world, of methods and of tables that are kept together.
use Rattle.std.specs.Prelude.{List, Option, length}
use Rattle.jv_types.specs.declared.frames.FramedBody.{FramedBody}
use Rattle.jv_types.specs.declared.ids.ClassId.{ClassId}
use Rattle.jv_types.specs.declared.ids.MethodId.{MethodId}
use Rattle.jv_types.specs.declared.shapes.Shape.{Shape}
use Rattle.jv_world.specs.Worlds.{IsNamed, IsWorld, object_name}
use Rattle.av_rules.specs.Program.{IsAnalysable}
use Rattle.av_rules.specs.Steps.Tables.{AreOfEach, SaysAny}

-- the program is one that may be analysed, and the tables are those of its world
pub record IsKept (w : List Shape) (methods : List FramedBody) (start : MethodId) (any : List (Option ClassId)) (object : ClassId) : Type 0 where
  pub world : IsWorld w
  pub analysable : IsAnalysable (record { world = w; methods = methods; start = start })
  pub any_classes : AreOfEach (SaysAny w) (length w) any
  pub object_named : IsNamed w object.number object_name
