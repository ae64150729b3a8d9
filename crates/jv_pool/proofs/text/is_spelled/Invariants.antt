-- What is left is units exactly where all of it is.
use Rattle.std.proofs.Common.{◌≡◌, length}
use Rattle.jv_pool.specs.Steps.PoolReading.{is_spelled}
use Rattle.jv_pool.proofs.text.is_spelled.Given as goal

abbrev pub invariant-loop-rest : goal.invariant-loop-rest
invariant-loop-rest l = is_spelled l.rest ≡ is_spelled l.bytes

abbrev pub decreases-loop-rest : goal.decreases-loop-rest
decreases-loop-rest l = length l.rest
