-- Reach. A method that is called is entered, where its code is given.
use Rattle.std.specs.Prelude.{◌≡◌}
use Rattle.jv_fix.specs.Facts.{Premises, One}
use Rattle.jv_types.specs.declared.fact.Fact.{Fact}
use Rattle.jv_types.specs.declared.fact.Fact.TheVariants as facts
use Rattle.av_rules.specs.Program.{Program, IsGiven}

abbrev pub Reach : Program → Premises Fact → Fact → Type 0
Reach p (One (facts.Edge from m)) (facts.Reach entered) = IsGiven p m × (entered ≡ m)
Reach p _ _ = ⊥
