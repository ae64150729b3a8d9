-- Texts handed to a sink: what it has taken afterwards, and how its counts moved.
use Rattle.std.specs.Prelude.{◌≡◌, ◌≤◌, ◌⊎◌, ℕ, List, [], ◌∷◌, ◌++◌, Option, Result, OnOk, OnErr, option_map}
use Rattle.std.specs.List.{flat_map}
use Rattle.jv_host.specs.declared.sink.SinkFault.{SinkFault}
use Rattle.jv_host.specs.Counts.{Rises}
use Rattle.jv_host.specs.SinkAnswer.{OnSinkFailed, OnSinkLacking}

-- what is known of a sink: what it has taken, where it tells that, and its counts
pub record SinkState : Type 0 where
  pub taken : Option (List ℕ)
  pub faults : ℕ
  pub lacks : ℕ

-- it has taken these bytes more
abbrev pub Takes : SinkState → SinkState → List ℕ → Type 0
Takes old new text = new.taken ≡ option_map (λ before. before ++ text) old.taken

-- it has taken a front of them more
abbrev pub TakesFront : SinkState → SinkState → List ℕ → Type 0
TakesFront old new text = (front : List ℕ) × (rest : List ℕ) × (text ≡ front ++ rest) × Takes old new front

-- No count has fallen.
pub record NeverFalls (old new : SinkState) : Type 0 where
  pub faults : old.faults ≤ new.faults
  pub lacks : old.lacks ≤ new.lacks

-- Both counts are as they were.
pub record AreCountsKept (old new : SinkState) : Type 0 where
  pub faults : new.faults ≡ old.faults
  pub lacks : new.lacks ≡ old.lacks

-- A text was handed over: all of it where the answer is Ok, and no call failed. Otherwise a front of it, and
-- the count of the fault that is answered has risen.
pub record Handed (result : Result (Unit {0}) SinkFault) (old new : SinkState) (text : List ℕ) : Type 0 where
  pub whole : OnOk result (Takes old new text)
  pub untroubled : OnOk result (AreCountsKept old new)
  pub front : OnErr result (TakesFront old new text)
  pub failed : OnSinkFailed result (Rises old.faults new.faults)
  pub lacking : OnSinkLacking result (Rises old.lacks new.lacks)
  pub never_falls : NeverFalls old new

-- a sink took a line and nothing failed, or only a front of it and a count of its own rose
abbrev pub Says : SinkState → SinkState → List ℕ → Type 0
Says old new line = (Takes old new line × AreCountsKept old new) ⊎ (TakesFront old new line × (Rises old.faults new.faults ⊎ Rises old.lacks new.lacks))

-- each line ends with a newline
abbrev pub text_of_lines : List (List ℕ) → List ℕ
text_of_lines lines = flat_map (λ line. line ++ 10 ∷ []) lines
