use Rattle.std.proofs.Common.{sym, ◌∙◌}
use Rattle.std.proofs.lemmas.Result.{IfOk-weaker}
use Rattle.av_words.proofs.FirstWords.{texts, begin_verify}
use Rattle.av_words.proofs.Reading.{as_asked}
use Rattle.av_words.proofs.verify.verify_asked.Goals as goal

pub returns : goal.returns
returns c =
    let words = texts c.args.words.now in
    let begins = begin_verify c.args.words.now c.in-Some.command.now c.in-Some.ensures.value (sym c.ne.ensures ∙ c.if-ne.false) in
    IfOk-weaker c.folders_read.result _ _ (λ found. as_asked words begins.0 begins.1 found (λ f. f.0.now) (λ f. f.1.now)) c.folders_read.ensures
