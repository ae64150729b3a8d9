use Rattle.std.proofs.Common.{sym, ◌∙◌}
use Rattle.std.proofs.lemmas.Bool.{false≢true}
use Rattle.jv_frames.proofs.Determined.{no_fit}
use Rattle.jv_frames.proofs.map_frames.map_frame.Goals as goal

pub returns-else-fits_body-clause-found : goal.returns-else-fits_body-clause-found
returns-else-fits_body-clause-found c =
    no_fit c.args.pool.now c.args.body.now c.args.base c.args.before.items c.args.f.now c.as_slice.result.now c.as_slice-in-Ok.result.now
    (rw (c.as_slice.ensures.value, c.as_slice-in-Ok.ensures.value) c.in-Ok.ensures)
    (λ fits. false≢true (sym c.if-fits_body.false ∙ c.fits_body.ensures.1 fits))
