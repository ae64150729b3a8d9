use Rattle.std.proofs.Common.{map}
use Rattle.jv_verify.proofs.Targets.{later_decide}
use Rattle.jv_verify.proofs.goes.fits_at_targets.Goals as goal

pub returns-then-fits_there : goal.returns-then-fits_there
returns-then-fits_there c =
    let both = later_decide c.args.world.now c.args.rows.now c.in-Table.default c.in-Table.targets c.args.frame.now (c.fits_there-in-Table.ensures.0 c.if-fits_there.true) in
    rw (c.in-Table.is) (λ t. both.0 (rw c.as_slice.ensures at c.fits_at_each.ensures.0 t), λ h. c.fits_at_each.ensures.1 (rw c.as_slice.ensures (both.1 h)))

pub returns-then-fits_there-2 : goal.returns-then-fits_there-2
returns-then-fits_there-2 c =
    let both = later_decide c.args.world.now c.args.rows.now c.in-Lookup.default (map (λ (case : _). case.1) c.in-Lookup.cases) c.args.frame.now (c.fits_there-in-Lookup.ensures.0 c.if-fits_there-2.true) in
    rw (c.in-Lookup.is) (λ t. both.0 (rw c.as_slice-then-fits_there-2.ensures at c.fits_at_cases.ensures.0 t), λ h. c.fits_at_cases.ensures.1 (rw c.as_slice-then-fits_there-2.ensures (both.1 h)))
