use Rattle.std.proofs.Common.{take, All}
use Rattle.jv_typing.specs.TypeSafe.{FitsThere}
use Rattle.jv_verify.specs.Steps.Checking.{StandsIn}
use Rattle.jv_verify.proofs.goes.fits_at_each.Given as goal

abbrev pub invariant-loop-target : goal.invariant-loop-target
invariant-loop-target l = All (λ target. FitsThere l.world (StandsIn l.rows) target l.fn.frame) (take l.target-index l.targets)
