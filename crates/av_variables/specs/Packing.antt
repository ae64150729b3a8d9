-- Packed facts: a label stands at a variable, in place of each of its places.
use Rattle.std.specs.Prelude.{◌≡◌, ◌↔◌, ℕ, Bool, IsTrue, List, Contains}
use Rattle.jv_fix.specs.Facts.{Premises, One, Two, IsClosed}
use Rattle.jv_types.specs.declared.fact.CallFrom.{CallFrom}
use Rattle.jv_types.specs.declared.fact.Fact.{Fact}
use Rattle.jv_types.specs.declared.fact.Fact.TheVariants as facts
use Rattle.jv_types.specs.declared.ids.MethodId.{MethodId}
use Rattle.jv_types.specs.declared.label.Label.{Label}
use Rattle.jv_types.specs.declared.place.Place.{Place}
use Rattle.av_rules.specs.Forcing.{Forces}
use Rattle.av_rules.specs.Program.{Program}
use Rattle.av_rules.specs.Rules.Entry.{IsSeed}

-- a fact, with the number of the variable in place of the place
pub data Packed : Type 0 where
  Entered : MethodId → Packed
  Called : CallFrom → MethodId → Packed
  Holds : ℕ → Label → Packed

abbrev pub packed : (Place → ℕ) → Fact → Packed
packed number (facts.Reach m) = Entered m
packed number (facts.Edge from m) = Called from m
packed number (facts.Pt place label) = Holds (number place) label

abbrev pub packed_premises : (Place → ℕ) → Premises Fact → Premises Packed
packed_premises number (One fact) = One (packed number fact)
packed_premises number (Two first second) = Two (packed number first) (packed number second)

-- a packed fact follows from packed premises, where a fact for which it stands follows from facts for which they stand
abbrev pub PackForces : Program → (Place → ℕ) → Premises Packed → Packed → Type 0
PackForces p number premises fact =
    (from : Premises Fact) × (forced : Fact) × (packed_premises number from ≡ premises) × (packed number forced ≡ fact) × Forces p from forced

-- it stands for one that holds without a premise
abbrev pub IsPackedSeed : Program → (Place → ℕ) → Packed → Type 0
IsPackedSeed p number fact = (seed : Fact) × (packed number seed ≡ fact) × IsSeed p seed

pub record PackClosed (p : Program) (number : Place → ℕ) (set : Packed → Type 0) : Type 0 where
  pub seeded : (fact : Packed) → IsPackedSeed p number fact → set fact
  pub closed : IsClosed (PackForces p number) set

-- a set of packed facts has each one at which it answers true
abbrev pub HasPacked : (Packed → Bool) → Packed → Type 0
HasPacked set fact = IsTrue (set fact)

-- the packed facts are closed, and inside every closed set
pub record PackLeast (p : Program) (number : Place → ℕ) (packs : List Packed) : Type 0 where
  pub closed : PackClosed p number (Contains packs)
  pub inside : (set : Packed → Bool) → PackClosed p number (HasPacked set) → (fact : Packed) → Contains packs fact → HasPacked set fact

-- the facts for which the packed ones of a set stand
abbrev pub Expanded : (Place → ℕ) → (Packed → Type 0) → Fact → Type 0
Expanded number set fact = set (packed number fact)

-- the list has just the facts for which these packed ones stand
abbrev pub AreExpanded : (Place → ℕ) → List Packed → List Fact → Type 0
AreExpanded number packs facts = (fact : Fact) → Contains facts fact ↔ Expanded number (Contains packs) fact
