use Rattle.std.proofs.Common.{ℕ, refl, subst}
use Rattle.std.proofs.lemmas.List.Elements.{All-more}
use Rattle.jv_lists.proofs.Among.{mapped_from}
use Rattle.jv_typing.specs.TypeSafe.{FitsThere}
use Rattle.jv_verify.specs.Steps.Checking.{StandsIn}
use Rattle.jv_verify.proofs.Each.{passed}
use Rattle.jv_verify.proofs.goes.fits_at_cases.Goals as goal

pub loop-case-preserved : goal.loop-case-preserved
loop-case-preserved c =
    let Fits = λ (target : ℕ). FitsThere c.args.world.now (StandsIn c.args.rows.now) target c.args.frame.now in
    All-more (λ (case : _). Fits case.1) c.args.cases.now c.loop-case.case-index _ c.loop-case-test.true c.loop-case.invariant
    (c.fits_there.ensures.0 c.if-not-fits_there.false)

pub returns : goal.returns
returns c =
    let Fits = λ (target : ℕ). FitsThere c.args.world.now (StandsIn c.args.rows.now) target c.args.frame.now in (
      λ _ target among.
          let found = mapped_from (λ (case : _). case.1) c.args.cases.now target among in
          subst Fits found.2 (passed (λ (case : _). Fits case.1) c.args.cases.now c.loop-case.case-index c.loop-case-test.false c.loop-case.invariant found.0 found.1),
      λ _. refl,
    )
