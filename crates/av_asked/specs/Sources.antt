-- What a source of shapes goes through while classes are read.
use Rattle.std.specs.Prelude.{◌≡◌, ◌≢◌, ℕ, ◌≤◌, ◌++◌, List, [], ◌∷◌, Option, Some, Contains}
use Rattle.jv_types.specs.declared.quantity.Quantity.{Quantity}
use Rattle.jv_host.specs.Counts.{Rises}
use Rattle.av_collected.specs.declared.stop.CollectStop.{CollectStop}
use Rattle.av_collected.specs.declared.stop.CollectStop.TheVariants.{LibraryForm, Missing, NamesApplication, Limit, Failed, Memory}
use Rattle.av_collected.specs.Libraries.{LibraryFile}
use Rattle.av_collected.specs.Sources.{Kept}
use Rattle.av_asked.specs.Asking.{AreDistinct, AskedPast}

-- what a source tells of itself
pub record SourceState : Type 0 where
  pub shapes : Option (List LibraryFile)
  pub kept : Kept
  pub asked : List (List ℕ)
  pub answered : List (List ℕ)
  pub passed : Option Quantity
  pub failed : Option (List ℕ)
  pub faults : ℕ

-- names were asked for, and those that are given first were answered
pub record Moved (before after : SourceState) (replied names : List (List ℕ)) : Type 0 where
  pub shapes : after.shapes ≡ before.shapes
  pub kept : after.kept ≡ before.kept
  pub asked : after.asked ≡ before.asked ++ names
  pub answered : after.answered ≡ before.answered ++ replied
  pub past : AskedPast replied names
  pub passed : (quantity : Quantity) → before.passed ≡ Some quantity → after.passed ≡ Some quantity
  pub faults : before.faults ≤ after.faults

-- no fault came
pub record IsFaultless (before after : SourceState) : Type 0 where
  pub faults : after.faults ≡ before.faults
  pub failed : after.failed ≡ before.failed

-- the names were asked for and answered, and no quantity had passed
pub record Ran (before after : SourceState) (names : List (List ℕ)) : Type 0 where
  pub moved : Moved before after names names
  pub faultless : IsFaultless before after
  pub idle : names ≡ [] → after.passed ≡ before.passed
  pub not_passed : names ≢ [] → (quantity : Quantity) → after.passed ≡ Some quantity → ⊥

-- the last of the names was answered by a quantity that passes
pub record StopsAtLimit (before after : SourceState) (quantity : Quantity) (names : List (List ℕ)) : Type 0 where
  pub moved : Moved before after names names
  pub faultless : IsFaultless before after
  pub some : names ≢ []
  pub passed : after.passed ≡ Some quantity

-- the source failed at the last of the names
pub record StopsAtFault (before after : SourceState) (names : List (List ℕ)) : Type 0 where
  pub front : List (List ℕ)
  pub last : List ℕ
  pub parts : names ≡ front ++ last ∷ []
  pub moved : Moved before after front names
  pub rises : Rises before.faults after.faults
  pub failed : after.failed ≡ Some last

-- memory was wanting
pub record StopsForMemory (before after : SourceState) (names : List (List ℕ)) : Type 0 where
  pub replied : List (List ℕ)
  pub moved : Moved before after replied names
  pub faultless : IsFaultless before after

-- what an answer of a stopped reading says
abbrev pub Stops : SourceState → SourceState → CollectStop → List (List ℕ) → Type 0
Stops before after (LibraryForm name) names = ⊥
Stops before after (Missing name) names = ⊥
Stops before after (NamesApplication name) names = ⊥
Stops before after (Limit quantity) names = StopsAtLimit before after quantity names
Stops before after Failed names = StopsAtFault before after names
Stops before after Memory names = StopsForMemory before after names

-- Reading stopped. Each name that was asked for is one of which P holds, and none of them twice, those that were
-- asked for earlier included.
pub record StopsAmong (P : List ℕ → Type 0) (earlier : List (List ℕ)) (before after : SourceState) (stop : CollectStop) : Type 0 where
  pub names : List (List ℕ)
  pub each : (name : List ℕ) → Contains names name → P name
  pub once : AreDistinct (earlier ++ names)
  pub stops : Stops before after stop names
