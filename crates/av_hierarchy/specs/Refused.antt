-- What an answer says of classes that it refuses.
use Rattle.std.specs.Prelude.{List}
use Rattle.jv_types.specs.declared.shapes.Shape.{Shape}
use Rattle.av_hierarchy.specs.declared.refusal.Unsound.{Unsound}
use Rattle.av_hierarchy.specs.declared.refusal.Unsound.TheVariants.{At, Memory}
use Rattle.av_hierarchy.specs.Hierarchy.{FailsHierarchy}

-- the rule and the class that it names are the first that fail
abbrev pub IsUnsound : List Shape → Unsound → Type 0
IsUnsound w (At rule name) = FailsHierarchy w rule name
IsUnsound w Memory = Unit {0}
