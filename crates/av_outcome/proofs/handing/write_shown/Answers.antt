use Rattle.std.proofs.Common.{suc, ◌++◌, take, drop, get_or}
use Rattle.std.proofs.lemmas.Result.{err_from_is_err_and}
use Rattle.jv_bytes.specs.Shown.{shown_byte, shown_text}
use Rattle.av_outcome.proofs.ShownText.{shown_text-at}
use Rattle.av_outcome.proofs.Sinks.{Handed-then, Handed-cut}
use Rattle.av_outcome.proofs.handing.write_shown.Goals as goal

pub returns-in_err-write_whole-clause-handed : goal.returns-in_err-write_whole-clause-handed
returns-in_err-write_whole-clause-handed g c =
    let p = err_from_is_err_and c.from_residual.result c.from_residual.ensures.1 in
    let text = c.args.text.now in let i = c.loop-byte.byte-index in
    rw (p.1, p.2, shown_text-at text i c.loop-byte-test.true)
    (Handed-then _ _ _ _ (shown_text (take i text)) (shown_byte (get_or text i 0) ++ shown_text (drop (suc i) text)) c.loop-byte.invariant.0
    (Handed-cut c.in_err-write_whole.field-0.0 _ _ (shown_byte (get_or text i 0)) (shown_text (drop (suc i) text))
    (rw (c.as_slice.ensures, c.new.ensures) at c.in_err-write_whole.ensures.handed)))
