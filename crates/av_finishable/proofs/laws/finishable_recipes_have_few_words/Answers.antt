-- Each recipe by its own code.
use Rattle.av_finishable.proofs.FewWords.{few_words}
use Rattle.av_finishable.proofs.laws.finishable_recipes_have_few_words.Goals as goal

pub returns : goal.returns
returns c = few_words
