-- Each recipe by its own code.
use Rattle.av_fit_codes.proofs.Recipes.{recipe_finishable}
use Rattle.av_fit_codes.proofs.laws.fitting_recipes_are_finishable.Goals as goal

pub returns : goal.returns
returns c = recipe_finishable
