use Rattle.std.proofs.Common.{sym, ◌∙◌}
use Rattle.av_words.proofs.FirstWords.{are_calls}
use Rattle.av_words.proofs.calls.calls_asked.Goals as goal

pub returns : goal.returns
returns c = are_calls c.args.words.now _ c.in-len3.len_at_least c.in-len3.len_below (sym c.ne.ensures ∙ c.if-ne.false)
