-- What sketches must have so that a stand-in can be made of them.
use Rattle.std.specs.Prelude.{◌≡◌, ℕ, Some, Contains}
use Rattle.av_standin_of.specs.Codes.{Code}
use Rattle.av_sketches.specs.declared.sketch.Recipe.{Recipe}
use Rattle.av_sketches.specs.declared.sketch.Sketch.{Sketch}
use Rattle.av_sketches.specs.declared.sketch.SketchedMethod.{SketchedMethod}
use Rattle.av_sketches.specs.Sketches.{recipe_code}

-- each recipe of a sketch gives its method a code
abbrev pub GivesCodes : ℕ → Sketch → Type 0
GivesCodes dims sketch =
    (sketched : SketchedMethod) (recipe : Recipe) → Contains sketch.methods sketched → sketched.recipe ≡ Some recipe
    → (code : Code) × (recipe_code dims sketch.name sketched.shape recipe ≡ Some code)
