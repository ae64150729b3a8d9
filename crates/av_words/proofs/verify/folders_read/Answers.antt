use Rattle.std.proofs.Common.{ℕ, List}
use Rattle.clap.specs.Words.{app_of}
use Rattle.av_words.proofs.FirstWords.{texts}
use Rattle.av_words.proofs.Reading.{as_read}
use Rattle.av_words.proofs.verify.folders_read.Goals as goal

pub returns-in-Ok : goal.returns-in-Ok
returns-in-Ok c =
    as_read (app_of c.in_ok-command.command) (texts c.args.words.now) c.in-Ok.matches c.in_ok-command.ensures
    c.in-Ok.ensures.matches c.in-Ok.ensures.kinds c.folders_of.result (λ f. f.0.now) (λ f. f.1.now) c.folders_of.ensures
