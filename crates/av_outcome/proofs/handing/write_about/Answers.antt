use Rattle.std.proofs.Common.{◌++◌}
use Rattle.std.proofs.lemmas.Result.{err_from_is_err_and}
use Rattle.jv_bytes.specs.Shown.{shown_text}
use Rattle.av_outcome.proofs.Sinks.{from_handed, Handed-then, Handed-cut}
use Rattle.av_outcome.proofs.handing.write_about.Goals as goal

pub returns-in_err-write_whole-clause-handed : goal.returns-in_err-write_whole-clause-handed
returns-in_err-write_whole-clause-handed g c =
    let p = err_from_is_err_and c.from_residual.result c.from_residual.ensures.1 in
    rw (p.1, p.2) (Handed-cut c.in_err-write_whole.field-0.0 _ _ c.args.before.now (shown_text c.args.text.now ++ c.args.after.now) c.in_err-write_whole.ensures.handed)

pub returns-in_err-write_shown-clause-handed : goal.returns-in_err-write_shown-clause-handed
returns-in_err-write_shown-clause-handed g c =
    let p = err_from_is_err_and c.from_residual-in_err-write_shown.result c.from_residual-in_err-write_shown.ensures.1 in
    rw (p.1, p.2) (Handed-then _ _ _ _ c.args.before.now (shown_text c.args.text.now ++ c.args.after.now)
    (from_handed _ _ _ _ c.in_ok-write_whole.ensures.handed)
    (Handed-cut c.in_err-write_shown.field-0.0 _ _ (shown_text c.args.text.now) c.args.after.now c.in_err-write_shown.ensures.handed))

pub returns-clause-handed : goal.returns-clause-handed
returns-clause-handed g c =
    Handed-then _ _ _ _ c.args.before.now (shown_text c.args.text.now ++ c.args.after.now)
    (from_handed _ _ _ _ c.in_ok-write_whole.ensures.handed)
    (Handed-then _ _ _ _ (shown_text c.args.text.now) c.args.after.now (from_handed _ _ _ _ c.in_ok-write_shown.ensures.handed) c.write_whole-2.ensures.handed)
