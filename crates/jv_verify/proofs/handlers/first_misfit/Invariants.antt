use Rattle.std.proofs.Common.{take, All}
use Rattle.std.specs.Option.{option_copied}
use Rattle.jv_verify.specs.Steps.Checking.{FitsTarget}
use Rattle.jv_verify.proofs.handlers.first_misfit.Given as goal

abbrev pub invariant-loop-row : goal.invariant-loop-row
invariant-loop-row l = All (λ (row : _). FitsTarget l.world (option_copied l.fn.there) row.1) (take l.row-index l.rows)
