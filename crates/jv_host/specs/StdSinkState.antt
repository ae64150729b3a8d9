-- What a sink over a writer is seen as.
use Rattle.std.specs.Prelude.{ℕ, List, Option}

-- the bytes that the writer holds, where they are known, and how often a write has failed
pub record StdSinkState : Type 0 where
  pub contents : Option (List ℕ)
  pub faults : ℕ
