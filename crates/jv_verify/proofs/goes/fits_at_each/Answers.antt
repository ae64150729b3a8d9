use Rattle.std.proofs.Common.{ℕ, refl}
use Rattle.std.proofs.lemmas.List.Elements.{All-more}
use Rattle.jv_typing.specs.TypeSafe.{FitsThere}
use Rattle.jv_verify.specs.Steps.Checking.{StandsIn}
use Rattle.jv_verify.proofs.Each.{passed}
use Rattle.jv_verify.proofs.goes.fits_at_each.Goals as goal

pub loop-target-preserved : goal.loop-target-preserved
loop-target-preserved c =
    let Fits = λ (target : ℕ). FitsThere c.args.world.now (StandsIn c.args.rows.now) target c.args.frame.now in
    All-more Fits c.args.targets.now c.loop-target.target-index _ c.loop-target-test.true c.loop-target.invariant
    (c.fits_there.ensures.0 c.if-not-fits_there.false)

pub returns : goal.returns
returns c =
    let Fits = λ (target : ℕ). FitsThere c.args.world.now (StandsIn c.args.rows.now) target c.args.frame.now in
    (λ _ target among. passed Fits c.args.targets.now c.loop-target.target-index c.loop-target-test.false c.loop-target.invariant target among, λ _. refl)
