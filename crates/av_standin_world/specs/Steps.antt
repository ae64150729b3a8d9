-- The shapes of the classes that a stand-in adds to a world.
use Rattle.std.specs.Prelude.{Bool, false, not, List, map}
use Rattle.std.specs.List.{list_any}
use Rattle.std.specs.Str.{bytes_eq}
use Rattle.jv_types.specs.declared.shapes.MethodShape.{MethodShape}
use Rattle.jv_types.specs.declared.shapes.Shape.{Shape}
use Rattle.av_sketches.specs.declared.sketch.Sketch.{Sketch}
use Rattle.av_sketches.specs.declared.sketch.SketchedMethod.{SketchedMethod}

abbrev pub shape_of : SketchedMethod → MethodShape
shape_of method = method.shape

abbrev pub new_shape : Sketch → Shape
new_shape sketch = record {
  name = sketch.name;
  flags = sketch.flags;
  parent = sketch.parent;
  interfaces = sketch.interfaces;
  fields = sketch.fields;
  methods = map shape_of sketch.methods;
  application = false;
}

abbrev pub is_new_sketch : List Shape → Sketch → Bool
is_new_sketch w sketch = not (list_any (λ (class : Shape). bytes_eq class.name sketch.name) w)
