-- What the classes of a stand-in must have so that they make a world with the application.
use Rattle.std.specs.Prelude.{◌≡◌, ℕ, ◌≤◌, List, length, Contains}
use Rattle.jv_types.specs.declared.shapes.MethodShape.{MethodShape}
use Rattle.jv_types.specs.declared.shapes.Shape.{Shape}
use Rattle.av_standin_of.specs.Classes.{MadeClass, MadeMethod, IsCollectedClass, IsOfCollected}
use Rattle.av_standin_of.specs.Files.{AreStandinClasses}
use Rattle.av_sketches.specs.Conditions.{CanStandIn}

-- each collected class has its class among these
abbrev pub HasEachCollected : List Shape → List MadeClass → Type 0
HasEachCollected w classes = (class : Shape) → IsCollectedClass w class → (made : MadeClass) × Contains classes made × IsOfCollected class made

-- each class has as many methods as its file can count (JVMS 4.1)
abbrev pub HasFewMethods : List MadeClass → Type 0
HasFewMethods classes = (made : MadeClass) → Contains classes made → length made.methods ≤ 65535

-- These are the classes of the stand-in for this world, where arrays have up to so many dimensions. It can be made, and
-- none has too many methods.
pub record MayMakeWorld (w : List Shape) (dims : ℕ) (classes : List MadeClass) : Type 0 where
  pub can : CanStandIn w dims
  pub are : AreStandinClasses w dims classes
  pub each : HasEachCollected w classes
  pub few : HasFewMethods classes

-- The world has a class of this name with its methods, and two methods of this class with one name and descriptor are one
-- (JVMS 4.6).
pub record HasMethodsThere (w : List Shape) (made : MadeClass) : Type 0 where
  pub class : Shape
  pub here : Contains w class
  pub named : class.name ≡ made.name
  pub methods : (method : MadeMethod) → Contains made.methods method → Contains class.methods method.shape
  pub distinct : (x y : MethodShape) → Contains class.methods x → Contains class.methods y → x.name ≡ y.name → x.desc ≡ y.desc → x ≡ y
