-- Initialise. In a method that is entered, new, getstatic, putstatic and invokestatic may first enter the initialisers
-- of the application that the class has which they initialise, its superclasses and its superinterfaces (JVMS 5.5).
use Rattle.std.specs.Prelude.{◌≡◌}
use Rattle.jv_fix.specs.Facts.{Premises, One}
use Rattle.jv_types.specs.declared.fact.Fact.{Fact}
use Rattle.jv_types.specs.declared.fact.Fact.TheVariants as facts
use Rattle.av_conditions.specs.Initialisers.{MayEnter}
use Rattle.av_rules.specs.Program.{Program, Point, IsPoint, method_of, site_of}

-- what follows at a program point
abbrev pub InitialiseAt : Program → Point → Premises Fact → Fact → Type 0
InitialiseAt p at (One (facts.Reach m)) (facts.Edge from c) =
    (method_of at ≡ m) × MayEnter p.world at.insn c × (from ≡ site_of at)
InitialiseAt p at _ _ = ⊥

abbrev pub Initialise : Program → Premises Fact → Fact → Type 0
Initialise p premises fact = (at : Point) × IsPoint p at × InitialiseAt p at premises fact
