-- Machine raise. Any instruction of a method that is entered may throw an object of the library: of Throwable, or of
-- any collected subclass of it (JVMS 2.10, 6.3).
use Rattle.std.specs.Prelude.{◌≡◌}
use Rattle.jv_fix.specs.Facts.{Premises, One}
use Rattle.jv_types.specs.declared.fact.Fact.{Fact}
use Rattle.jv_types.specs.declared.fact.Fact.TheVariants as facts
use Rattle.jv_types.specs.declared.ids.ClassId.{ClassId}
use Rattle.jv_types.specs.declared.label.Label.{Label}
use Rattle.jv_types.specs.declared.label.Label.TheVariants.{Lib}
use Rattle.jv_types.specs.declared.label.LibBase.TheVariants as bases
use Rattle.av_rules.specs.Program.{Program, Point, IsPoint, method_of}
use Rattle.av_rules.specs.Rules.Raise.{raise_place}
use Rattle.av_rules.specs.StandInClasses.{IsCollected, IsThrowable}

-- the label of the objects of a collected class that are thrown
abbrev pub IsThrownByMachine : Program → Label → Type 0
IsThrownByMachine p label =
    (c : ClassId) × IsCollected p.world c.number × IsThrowable p.world c.number × (label ≡ Lib (bases.Class c) 0)

-- what follows at a program point
abbrev pub MachineRaiseAt : Program → Point → Premises Fact → Fact → Type 0
MachineRaiseAt p at (One (facts.Reach m)) (facts.Pt to label) =
    (method_of at ≡ m) × (to ≡ raise_place at) × IsThrownByMachine p label
MachineRaiseAt p at _ _ = ⊥

abbrev pub MachineRaise : Program → Premises Fact → Fact → Type 0
MachineRaise p premises fact = (at : Point) × IsPoint p at × MachineRaiseAt p at premises fact
