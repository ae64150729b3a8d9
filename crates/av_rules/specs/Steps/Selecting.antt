-- What is selected for a class itself, where nothing is for the class of any object of it.
use Rattle.std.specs.Prelude.{◌≡◌, ℕ, Bool, List}
use Rattle.jv_types.specs.declared.ids.ClassId.{ClassId}
use Rattle.jv_types.specs.declared.ids.MethodId.{MethodId}
use Rattle.jv_types.specs.declared.label.Label.{Label}
use Rattle.jv_types.specs.declared.label.Label.TheVariants.{Lib}
use Rattle.jv_types.specs.declared.label.LibBase.TheVariants as bases
use Rattle.jv_types.specs.declared.shapes.Shape.{Shape}
use Rattle.av_rules.specs.Dispatching.{SelectsOn}
use Rattle.av_rules.specs.StandInClasses.{IsAnyClassOf}

-- the class is one of the library that may be extended, for which m is selected
abbrev pub SelectsOpen : List Shape → Bool → ClassId → MethodId → MethodId → Type 0
SelectsOpen w interface c resolved m = (any : ℕ) × IsAnyClassOf w c.number any × SelectsOn w interface c.number resolved m

-- the label is that of the objects of such a class
abbrev pub SelectsInstead : List Shape → Bool → Label → MethodId → MethodId → Type 0
SelectsInstead w interface label resolved m =
    (c : ClassId) × (any : ℕ) × (label ≡ Lib (bases.Class c) 0) × IsAnyClassOf w c.number any × SelectsOn w interface c.number resolved m
