-- The methods of a collected class as it stands in the stand-in's world.
use Rattle.std.proofs.Common.{◌≡◌, Bool, true, false, List, [], ◌∷◌, ◌++◌, map, refl, ap, ◌∙◌}
use Rattle.std.specs.Prelude.{if◌then◌else◌}
use Rattle.std.proofs.lemmas.List.{map-append}
use Rattle.jv_types.specs.declared.shapes.MethodShape.{MethodShape}
use Rattle.jv_types.specs.declared.shapes.Shape.{Shape}
use Rattle.av_standin_of.specs.Classes.{MadeMethod, kept_method, extra_method, is_interface}
use Rattle.av_standin_of.specs.Worlds.{in_place, shape_of}
use Rattle.av_sketches.specs.declared.sketch.SketchedMethod.{SketchedMethod}
use Rattle.av_sketching.specs.Steps.{kept_sketch, extra_sketch, extras, all_sketched, sketched_shape}
use Rattle.av_sketching.proofs.Kept.{kept_is}

kept_shapes : (class : Shape) (methods : List MethodShape)
    → map sketched_shape (map (kept_sketch class) methods) ≡ map (λ (declared : MethodShape). shape_of (kept_method class declared)) methods
kept_shapes class [] = refl
kept_shapes class (declared ∷ methods) =
    ap (λ (shape : MethodShape). shape ∷ map sketched_shape (map (kept_sketch class) methods)) (ap (λ (made : MadeMethod). made.shape) (kept_is 0 class declared))
    ∙ ap (λ (shapes : List MethodShape). shape_of (kept_method class declared) ∷ shapes) (kept_shapes class methods)

extra_shapes : (class : Shape) (b : Bool)
    → map sketched_shape (if b then [] else extra_sketch class ∷ []) ≡ (if b then [] else shape_of (extra_method class.name class.parent) ∷ [])
extra_shapes class true = refl
extra_shapes class false = refl

pub placed_methods : (class : Shape) → map sketched_shape (all_sketched class) ≡ (in_place class).methods
placed_methods class =
    map-append sketched_shape (map (kept_sketch class) class.methods) (extras class)
    ∙ ap (λ (shapes : List MethodShape). shapes ++ map sketched_shape (extras class)) (kept_shapes class class.methods)
    ∙ ap (λ (shapes : List MethodShape). map (λ (declared : MethodShape). shape_of (kept_method class declared)) class.methods ++ shapes) (extra_shapes class (is_interface class))
