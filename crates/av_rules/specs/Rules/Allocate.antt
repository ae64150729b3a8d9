-- Allocate. An instruction of a method that is entered pushes what it makes (JVMS 6.5, new, newarray, anewarray,
-- multianewarray), and the inner arrays of multianewarray stand in those around them.
use Rattle.std.specs.Prelude.{◌≡◌, ◌+◌, ℕ}
use Rattle.jv_fix.specs.Facts.{Premises, One}
use Rattle.jv_types.specs.declared.fact.Fact.{Fact}
use Rattle.jv_types.specs.declared.fact.Fact.TheVariants as facts
use Rattle.jv_types.specs.declared.label.Label.{Label}
use Rattle.jv_types.specs.declared.place.Place.{Place}
use Rattle.jv_types.specs.declared.place.Place.TheVariants as places
use Rattle.av_rules.specs.Labels.{IsLabelAt}
use Rattle.av_rules.specs.Program.{Program, Point, IsPoint, IsPushed, method_of}

-- an instruction gives a label to a place
pub data MakesAt (p : Program) (at : Point) (place : Place) (label : Label) : Type 0 where
  pushed : IsLabelAt p at 0 label → IsPushed at place → MakesAt p at place label
  inner : (depth : ℕ) (outer : Label) → IsLabelAt p at depth outer → IsLabelAt p at (depth + 1) label → place ≡ places.Elem outer → MakesAt p at place label

-- what follows at a program point
abbrev pub AllocateAt : Program → Point → Premises Fact → Fact → Type 0
AllocateAt p at (One (facts.Reach m)) (facts.Pt place label) = (method_of at ≡ m) × MakesAt p at place label
AllocateAt p at _ _ = ⊥

abbrev pub Allocate : Program → Premises Fact → Fact → Type 0
Allocate p premises fact = (at : Point) × IsPoint p at × AllocateAt p at premises fact
