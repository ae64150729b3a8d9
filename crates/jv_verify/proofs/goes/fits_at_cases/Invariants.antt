use Rattle.std.proofs.Common.{take, All}
use Rattle.jv_typing.specs.TypeSafe.{FitsThere}
use Rattle.jv_verify.specs.Steps.Checking.{StandsIn}
use Rattle.jv_verify.proofs.goes.fits_at_cases.Given as goal

abbrev pub invariant-loop-case : goal.invariant-loop-case
invariant-loop-case l = All (λ (case : _). FitsThere l.world (StandsIn l.rows) case.1 l.fn.frame) (take l.case-index l.cases)
