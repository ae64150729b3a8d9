use Rattle.jv_verify.proofs.Asked.{first_of_both}
use Rattle.jv_verify.proofs.checks.first_failing.Goals as goal

pub returns : goal.returns
returns c =
    rw c.earlier.ensures (first_of_both c.args.world.now c.args.method c.args.body.now c.args.rows.now c.in_ok-untyped.untyped c.in_ok-unhandled.unhandled c.requires.forced.starts c.in_ok-untyped.ensures
    (rw c.as_slice.ensures at c.in_ok-unhandled.ensures))
