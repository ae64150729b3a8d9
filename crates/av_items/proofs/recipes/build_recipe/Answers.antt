use Rattle.av_items.proofs.Alone.{alone}
use Rattle.av_items.proofs.recipes.build_recipe.Goals as goal

pub returns : goal.returns
returns c code is words = alone c.args.builder code c.put_recipe.result c.requires.begun words (c.put_recipe.ensures code is)
