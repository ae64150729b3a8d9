-- Entry. What holds at the start, and where throwables go that leave main or an initialiser.
use Rattle.std.specs.Prelude.{◌≡◌, ◌⊎◌}
use Rattle.jv_fix.specs.Facts.{Premises, One}
use Rattle.jv_types.specs.declared.fact.Fact.{Fact}
use Rattle.jv_types.specs.declared.fact.Fact.TheVariants as facts
use Rattle.jv_types.specs.declared.fact.CallFrom.TheVariants.{Root}
use Rattle.jv_types.specs.declared.ids.ClassId.{ClassId}
use Rattle.jv_types.specs.declared.ids.MethodId.{MethodId}
use Rattle.jv_types.specs.declared.label.Label.TheVariants.{Lib}
use Rattle.jv_types.specs.declared.label.LibBase.TheVariants as bases
use Rattle.jv_types.specs.declared.place.Place.{Place}
use Rattle.jv_types.specs.declared.place.Place.TheVariants as places
use Rattle.jv_world.specs.Worlds.{IsNamed}
use Rattle.av_conditions.specs.CoreClasses.{string_name}
use Rattle.av_conditions.specs.Initialisers.{IsInitialiser, MayEnterFirst}
use Rattle.av_rules.specs.Program.{Program, IsGiven, IsEntryLocal}
use Rattle.av_rules.specs.StandInClasses.{IsItem, IsKnownField}

-- The facts that hold without a premise. The methods main and each item are entered, an item where its code is
-- given; the library calls main, and its argument is an array of strings of the library; and the library calls each
-- initialiser of the application that main's class, its superclasses and its superinterfaces have (JVMS 5.2, 5.5).
pub data IsSeed (p : Program) (fact : Fact) : Type 0 where
  main_entered : fact ≡ facts.Reach p.start → IsSeed p fact
  item_entered : (item : MethodId) → IsItem p.world item → IsGiven p item → fact ≡ facts.Reach item → IsSeed p fact
  main_called : fact ≡ facts.Edge Root p.start → IsSeed p fact
  arguments : (string : ClassId) (place : Place) → IsNamed p.world string.number string_name → IsEntryLocal p p.start 0 place
      → fact ≡ facts.Pt place (Lib (bases.Class string) 1) → IsSeed p fact
  initialiser : (m : MethodId) → MayEnterFirst p.world p.start m → fact ≡ facts.Edge Root m → IsSeed p fact

-- what leaves the method by a throw goes to the library: main, or an initialiser of the application
abbrev pub EndsAtLibrary : Program → MethodId → Type 0
EndsAtLibrary p m = (m ≡ p.start) ⊎ IsInitialiser p.world m

-- the throwables that leave such a method are known to the library
abbrev pub Entry : Program → Premises Fact → Fact → Type 0
Entry p (One (facts.Pt (places.Thr m) label)) (facts.Pt (places.Static f) to) = EndsAtLibrary p m × IsKnownField p.world f × (to ≡ label)
Entry p _ _ = ⊥
