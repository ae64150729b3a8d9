use Rattle.std.proofs.Common.{sym, ◌∙◌}
use Rattle.jv_verify.proofs.Tables.{unfit_begins}
use Rattle.jv_verify.proofs.table.begun.Goals as goal

pub returns-then-fits_first-clause-found : goal.returns-then-fits_first-clause-found
returns-then-fits_first-clause-found c = record { is = rw c.in-Some.is at c.in_ok-initial.ensures.found; fits = c.fits_first.ensures.0 c.if-fits_first.true }

pub returns-else-fits_first-clause-fails : goal.returns-else-fits_first-clause-fails
returns-else-fits_first-clause-fails c =
    unfit_begins c.args.world.now c.args.method c.args.body.now c.args.maps.now c.in-Some.initial (rw c.in-Some.is at c.in_ok-initial.ensures.found)
    (λ fits. let t = sym c.if-fits_first.false ∙ c.fits_first.ensures.1 fits in absurd cc)
