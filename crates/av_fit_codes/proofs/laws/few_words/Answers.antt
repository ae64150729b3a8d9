-- Each recipe by its own condition.
use Rattle.std.proofs.Common.{ℕ, List, arith}
use Rattle.jv_types.specs.declared.shapes.MethodShape.{MethodShape}
use Rattle.av_sketches.specs.declared.sketch.Recipe.{Recipe}
use Rattle.av_sketches.specs.declared.sketch.Recipe.TheVariants as recipes
use Rattle.av_sketches.specs.Conditions.{HasFewWords, RecipeFits}
use Rattle.av_fit_codes.proofs.laws.few_words.Goals as goal

few : (dims : ℕ) (class : List ℕ) (shape : MethodShape) (recipe : Recipe) → RecipeFits dims class shape recipe → HasFewWords shape recipe
few dims class shape (recipes.Extra parent) h = tt
few dims class shape (recipes.Collected parent declared) h = omega (arith, h.fits.formed.few_words)
few dims class shape recipes.Template h = omega (arith, h.formed.few_words)
few dims class shape (recipes.Item item) h = tt

pub returns : goal.returns
returns c = few
