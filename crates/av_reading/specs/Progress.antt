-- How reading goes on, and what it ends with.
use Rattle.std.specs.Prelude.{◌≡◌, ℕ, ◌++◌, ◌≤◌, ◌⊎◌, List, [], Option, Contains, length}
use Rattle.jv_types.specs.declared.quantity.Quantity.TheVariants.{Classes}
use Rattle.jv_types.specs.declared.shapes.Shape.{Shape}
use Rattle.av_collected.specs.declared.stop.CollectStop.{CollectStop}
use Rattle.av_collected.specs.declared.stop.CollectStop.TheVariants.{Limit}
use Rattle.av_collected.specs.Answers.{AreTooMany}
use Rattle.av_collected.specs.Libraries.{LibraryFile}
use Rattle.av_collected.specs.Naming.{Application}
use Rattle.av_collected.specs.Rounds.{IsInside}
use Rattle.av_collected.specs.Rules.{ClassNamed, IsCollected}
use Rattle.av_round.specs.declared.class_items.ClassItems.{ClassItems}
use Rattle.av_round.specs.Listing.{AreItems}
use Rattle.av_reading.specs.declared.reading.Reading.{Reading}
use Rattle.av_asked.specs.Asking.{AreDistinct, IsTold}
use Rattle.av_asked.specs.Read.{HasRead}
use Rattle.av_asked.specs.Sources.{SourceState, Ran, StopsAmong}

-- one of the classes has this name
abbrev pub IsOneOf : List ClassItems → List ℕ → Type 0
IsOneOf classes name = (class : ClassItems) × Contains classes class × (class.name ≡ name)

-- More was read: each name that was asked for meanwhile is one of which P holds.
pub record Goes (P : List ℕ → Type 0) (known : Shape → Type 0) (before after : SourceState) (old new : Reading) : Type 0 where
  pub names : List (List ℕ)
  pub each : (name : List ℕ) → Contains names name → P name
  pub ran : Ran before after names
  pub asked : new.asked ≡ old.asked ++ names
  pub inside : IsInside old.files.items new.files.items
  pub idle : names ≡ [] → new.files.items ≡ old.files.items
  pub read : HasRead before.shapes known new.files.items new.asked

-- Just the files of all classes were read that are collected over what was read, and these classes are not too many.
pub record IsWhole (given : Application) (known : Shape → Type 0) (before after : SourceState) (files : List LibraryFile) (classes : List ClassItems) : Type 0 where
  pub names : List (List ℕ)
  pub ran : Ran before after names
  pub read : HasRead before.shapes known files names
  pub items : AreItems given files classes
  pub all : (name : List ℕ) → IsCollected given files (ClassNamed name) → Contains names name
  pub only : (name : List ℕ) → Contains names name → IsCollected given files (ClassNamed name)
  pub few : length classes ≤ 8000

-- a class of this name is collected over the library that is told
abbrev pub IsCollectedOver : Application → Option (List LibraryFile) → List ℕ → Type 0
IsCollectedOver given told name = (library : List LibraryFile) → IsTold told library → IsCollected given library (ClassNamed name)

-- more classes are collected than the limit allows
pub record StopsForMany (given : Application) (before after : SourceState) (stop : CollectStop) : Type 0 where
  pub names : List (List ℕ)
  pub each : (name : List ℕ) → Contains names name → IsCollectedOver given before.shapes name
  pub once : AreDistinct names
  pub ran : Ran before after names
  pub is : stop ≡ Limit Classes
  pub many : (library : List LibraryFile) → IsTold before.shapes library → AreTooMany given library

-- reading stopped for one of these causes
abbrev pub StopsFor : Application → SourceState → SourceState → CollectStop → Type 0
StopsFor given before after stop =
    StopsForMany given before after stop ⊎ StopsAmong (IsCollectedOver given before.shapes) [] before after stop
