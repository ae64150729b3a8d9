-- What ends a search along superclasses.
use Rattle.std.specs.Prelude.{ℕ, List}
use Rattle.jv_types.specs.declared.desc.MethodDesc.{MethodDesc}
use Rattle.jv_types.specs.declared.ids.MethodId.{MethodId}
use Rattle.jv_types.specs.declared.shapes.Shape.{Shape}
use Rattle.jv_resolve.specs.declared.nearest.Wanted.{Wanted}
use Rattle.jv_resolve.specs.declared.nearest.Wanted.TheVariants.{Declared, Inherited, Overriding, Special}
use Rattle.jv_resolve.specs.Members.{DeclaresMethod, HasMethod}
use Rattle.jv_resolve.specs.Selecting.{IsCandidate, IsOverrider, IsSpecialCandidate}

-- a method of this name and descriptor that is wanted
abbrev pub IsWanted : List Shape → List ℕ → MethodDesc → Wanted → MethodId → Type 0
IsWanted w name desc Declared m = DeclaresMethod w name desc m
IsWanted w name desc Inherited m = IsCandidate w name desc m
IsWanted w name desc (Overriding resolved) m = IsOverrider w resolved name desc m
IsWanted w name desc (Special resolved) m = IsSpecialCandidate w resolved name desc m

-- the method that a wish names is there
abbrev pub HasResolved : List Shape → Wanted → Type 0
HasResolved w Declared = Unit {0}
HasResolved w Inherited = Unit {0}
HasResolved w (Overriding resolved) = HasMethod w resolved
HasResolved w (Special resolved) = HasMethod w resolved
