-- What a sink in memory is seen as.
use Rattle.std.specs.Prelude.{ℕ, List}

-- how many bytes it takes per call at most, the numbers of the calls that are to fail, the bytes taken, how many calls
-- there were, how many failed, how many lacked memory, and how many were handed an empty piece
pub record MemSinkState : Type 0 where
  pub step : ℕ
  pub fail : List ℕ
  pub taken : List ℕ
  pub calls : ℕ
  pub faults : ℕ
  pub lacks : ℕ
  pub blanks : ℕ
