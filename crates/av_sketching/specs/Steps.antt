-- Sketches of the methods of a collected class.
use Rattle.std.specs.Prelude.{true, not, if◌then◌else◌, List, [], ◌∷◌, ◌++◌, map, Some, None}
use Rattle.jv_types.specs.declared.shapes.MethodShape.{MethodShape}
use Rattle.jv_types.specs.declared.shapes.Shape.{Shape}
use Rattle.jv_resolve.specs.Members.{init_name}
use Rattle.av_standin_of.specs.Names.{extra_desc}
use Rattle.av_standin_of.specs.Templates.{is_abstract}
use Rattle.av_standin_of.specs.Classes.{access, masked, is_interface}
use Rattle.av_sketches.specs.declared.sketch.Recipe.TheVariants.{Collected, Extra}
use Rattle.av_sketches.specs.declared.sketch.SketchedMethod.{SketchedMethod}

abbrev pub kept_shape : MethodShape → MethodShape
kept_shape declared = record { name = declared.name; desc = declared.desc; flags = masked declared.flags 0x041F; code = not (is_abstract declared) }

abbrev pub kept_sketch : Shape → MethodShape → SketchedMethod
kept_sketch class declared = record { shape = kept_shape declared; recipe = if is_abstract declared then None else Some (Collected class.parent declared) }

abbrev pub extra_sketch : Shape → SketchedMethod
extra_sketch class = record {
  shape = record { name = init_name; desc = extra_desc; flags = access 0x0001; code = true };
  recipe = Some (Extra class.parent);
}

-- the extra constructor, which an interface doesn't have
abbrev pub extras : Shape → List SketchedMethod
extras class = if is_interface class then [] else extra_sketch class ∷ []

abbrev pub all_sketched : Shape → List SketchedMethod
all_sketched class = map (kept_sketch class) class.methods ++ extras class

abbrev pub sketched_shape : SketchedMethod → MethodShape
sketched_shape method = method.shape
