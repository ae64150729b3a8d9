use Rattle.av_model.proofs.WordsGo.{words_go}
use Rattle.av_model.proofs.laws.words_go_on.Goals as goal

pub returns : goal.returns
returns c = words_go
