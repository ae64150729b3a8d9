-- Sets of facts that are closed under the sixteen rules, and the least of them.
use Rattle.std.specs.Prelude.{◌↔◌, Bool, IsTrue, List, Contains}
use Rattle.jv_fix.specs.Facts.{IsClosed}
use Rattle.jv_types.specs.declared.fact.Fact.{Fact}
use Rattle.av_rules.specs.Forcing.{Forces}
use Rattle.av_rules.specs.Program.{Program}
use Rattle.av_rules.specs.Rules.Entry.{IsSeed}

-- a set of facts has each one at which it answers true
abbrev pub Has : (Fact → Bool) → Fact → Type 0
Has set fact = IsTrue (set fact)

-- the set has the facts that hold without a premise, and what follows from its facts
pub record Closed (p : Program) (set : Fact → Type 0) : Type 0 where
  pub seeded : (fact : Fact) → IsSeed p fact → set fact
  pub closed : IsClosed (Forces p) set

-- the facts are closed, and inside every closed set
pub record Least (p : Program) (facts : List Fact) : Type 0 where
  pub closed : Closed p (Contains facts)
  pub inside : (set : Fact → Bool) → Closed p (Has set) → (fact : Fact) → Contains facts fact → Has set fact

-- the list has the facts that hold without a premise, and no other
pub record AreSeeds (p : Program) (seeds : List Fact) : Type 0 where
  pub exact : (fact : Fact) → Contains seeds fact ↔ IsSeed p fact
