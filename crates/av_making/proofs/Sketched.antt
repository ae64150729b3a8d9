-- What the classes of a stand-in have, of the sketches that stand for them.
use Rattle.std.proofs.Common.{◌≡◌, ℕ, List, Option, Some, None, refl, ap, ◌∙◌}
use Rattle.std.specs.Prelude.{IfSome}
use Rattle.jv_types.specs.declared.shapes.MethodShape.{MethodShape}
use Rattle.jv_types.specs.declared.shapes.Shape.{Shape}
use Rattle.jv_lists.proofs.Among.{mapped_to}
use Rattle.av_standin_of.specs.Codes.{Code}
use Rattle.av_sketches.specs.declared.sketch.Recipe.{Recipe}
use Rattle.av_sketches.specs.declared.sketch.Sketch.{Sketch}
use Rattle.av_sketches.specs.Sketches.{code_by, made_class, made_method, recipe_code}
use Rattle.av_sketches.specs.Conditions.{HasFewWords, HasFinishableCodes, IsFinishable}
use Rattle.av_new_world.specs.Conditions.{HasMethodsThere}
use Rattle.av_class_files.specs.Filing.{IsThere, MayBeCoded, MayBeFiled}
use Rattle.av_making.specs.Making.{GivesCodes}

pub sketch_there : (w : List Shape) (dims : ℕ) (sketch : Sketch) → HasMethodsThere w (made_class dims sketch) → IsThere w sketch
sketch_there w dims sketch there = record {
  class = there.class;
  here = there.here;
  named = there.named;
  methods = λ sketched has. there.methods (made_method dims sketch.name sketched) (mapped_to (made_method dims sketch.name) sketch.methods sketched has);
  distinct = there.distinct;
}

abbrev pub FewWords : Type 0
FewWords =
    (dims : ℕ) (class : List ℕ) (shape : MethodShape) (recipe : Recipe) (code : Code) → recipe_code dims class shape recipe ≡ Some code → IsFinishable shape code → HasFewWords shape recipe

pub may_be_filed : FewWords → (dims : ℕ) (sketch : Sketch) → HasFinishableCodes (made_class dims sketch) → GivesCodes dims sketch → MayBeFiled dims sketch
may_be_filed few dims sketch finishable gives sketched has = by sketched.recipe refl
  where
    finishes : (recipe : Recipe) → sketched.recipe ≡ Some recipe → (code : Code) → recipe_code dims sketch.name sketched.shape recipe ≡ Some code → IsFinishable sketched.shape code
    finishes recipe is code gives_it =
        finishable (made_method dims sketch.name sketched) code (mapped_to (made_method dims sketch.name) sketch.methods sketched has)
        (ap (code_by dims sketch.name sketched.shape) is ∙ gives_it)

    by : (o : Option Recipe) → sketched.recipe ≡ o → IfSome o (MayBeCoded dims sketch.name sketched.shape)
    by None is = tt
    by (Some recipe) is = record {
      few = let code = gives sketched recipe has is in few dims sketch.name sketched.shape recipe code.0 code.1 (finishes recipe is code.0 code.1);
      finishes = finishes recipe is;
    }
