-- What a world and a sketch need so that the sketch's class file can be made.
use Rattle.std.specs.Prelude.{◌≡◌, ℕ, List, Some, IfSome, Contains}
use Rattle.jv_types.specs.declared.shapes.MethodShape.{MethodShape}
use Rattle.jv_types.specs.declared.shapes.Shape.{Shape}
use Rattle.av_standin_of.specs.Codes.{Code}
use Rattle.av_sketches.specs.declared.sketch.Recipe.{Recipe}
use Rattle.av_sketches.specs.declared.sketch.SketchedMethod.{SketchedMethod}
use Rattle.av_sketches.specs.declared.sketch.Sketch.{Sketch}
use Rattle.av_sketches.specs.Sketches.{recipe_code}
use Rattle.av_sketches.specs.Conditions.{HasFewWords, IsFinishable}

-- The world has a class of the sketch's name, which has the sketch's methods. Two methods of this class with one name and
-- descriptor are one (JVMS 4.6).
pub record IsThere (w : List Shape) (sketch : Sketch) : Type 0 where
  pub class : Shape
  pub here : Contains w class
  pub named : class.name ≡ sketch.name
  pub methods : (sketched : SketchedMethod) → Contains sketch.methods sketched → Contains class.methods sketched.shape
  pub distinct : (x y : MethodShape) → Contains class.methods x → Contains class.methods y → x.name ≡ y.name → x.desc ≡ y.desc → x ≡ y

-- a recipe gives a method of a class a code that can be put and finished, or none (JVMS 4.7.3)
pub record MayBeCoded (dims : ℕ) (class : List ℕ) (shape : MethodShape) (recipe : Recipe) : Type 0 where
  pub few : HasFewWords shape recipe
  pub finishes : (code : Code) → recipe_code dims class shape recipe ≡ Some code → IsFinishable shape code

-- so do all recipes of a sketch, where arrays have up to so many dimensions
abbrev pub MayBeFiled : ℕ → Sketch → Type 0
MayBeFiled dims sketch =
    (sketched : SketchedMethod) → Contains sketch.methods sketched → IfSome sketched.recipe (MayBeCoded dims sketch.name sketched.shape)
