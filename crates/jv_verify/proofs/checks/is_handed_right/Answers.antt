use Rattle.std.proofs.Common.{sym}
use Rattle.jv_verify.proofs.Stepping.{targets_decide}
use Rattle.jv_verify.proofs.checks.is_handed_right.Goals as goal

pub returns-in-Some : goal.returns-in-Some
returns-in-Some c =
    targets_decide c.args.world.now c.args.rows.now c.args.next c.args.arg.now c.in-Some.after.now c.fits_at_targets.result (sym c.in-Some.ensures.value) c.fits_at_targets.ensures
