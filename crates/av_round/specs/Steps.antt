-- What only private functions say.
use Rattle.std.specs.Prelude.{◌↔◌, ◌<◌, ◌⊎◌, ℕ, List, length, Contains, map}
use Rattle.std.specs.List.Sorted.{IsStrictlyIncreasing}
use Rattle.jv_types.specs.declared.shapes.Shape.{Shape}
use Rattle.jv_world.specs.Worlds.{HaveDistinctNames}
use Rattle.av_collected.specs.Answers.{AreRising}
use Rattle.av_tables.specs.Tables.{Known, NameAt, ShapeAt}
use Rattle.av_whole.specs.WholeClasses.{HasWholeClasses}
use Rattle.av_forcing.specs.declared.fact.RoundFact.{RoundFact}
use Rattle.av_forcing.specs.declared.fact.RoundFact.TheVariants.{Class, Field, Method}
use Rattle.av_round.specs.declared.class_items.ClassItems.{ClassItems}

-- the class of some number below n has this shape
abbrev pub IsShapeBelow : ℕ → Known → Shape → Type 0
IsShapeBelow n k shape = (c : ℕ) × (c < n) × ShapeAt k c shape

-- the shape is that of a class of the application, or of a class that was read
abbrev pub IsHereBy : List Shape → Known → Shape → Type 0
IsHereBy app k shape = Contains app shape ⊎ IsShapeBelow (length k.names) k shape

-- the world has the whole ones of these classes
pub record HasWholeBy (app : List Shape) (k : Known) (w : List Shape) : Type 0 where
  pub shapes : List Shape
  pub exact : (shape : Shape) → Contains shapes shape ↔ IsHereBy app k shape
  pub distinct : HaveDistinctNames shapes
  pub whole : HasWholeClasses shapes w

-- just the places below n of which P holds, rising
pub record ArePlacesBelow (P : ℕ → Type 0) (n : ℕ) (places : List ℕ) : Type 0 where
  pub exact : (place : ℕ) → Contains places place ↔ ((place < n) × P place)
  pub rising : IsStrictlyIncreasing places

-- the class of this number, with its places among the facts found
pub record IsEntryOf (k : Known) (found : List RoundFact) (c : ℕ) (entry : ClassItems) : Type 0 where
  pub name : NameAt k c entry.name
  pub fields : (place : ℕ) → Contains entry.fields place ↔ Contains found (Field c place)
  pub methods : (place : ℕ) → Contains entry.methods place ↔ Contains found (Method c place)
  pub fields_rise : IsStrictlyIncreasing entry.fields
  pub methods_rise : IsStrictlyIncreasing entry.methods

-- just the found classes of a number below n
pub record AreEntriesBelow (k : Known) (found : List RoundFact) (n : ℕ) (entries : List ClassItems) : Type 0 where
  pub rising : AreRising (map (λ entry. entry.name) entries)
  pub from : (entry : ClassItems) → Contains entries entry → (c : ℕ) × (c < n) × Contains found (Class c) × IsEntryOf k found c entry
  pub all : (c : ℕ) → c < n → Contains found (Class c) → (entry : ClassItems) × Contains entries entry × IsEntryOf k found c entry

-- the members found of a class that has no shape, or past those of its shape, are none
pub record AreThere (k : Known) (found : List RoundFact) : Type 0 where
  pub fields : (c place : ℕ) → Contains found (Field c place) → (shape : Shape) × ShapeAt k c shape × (place < length shape.fields)
  pub methods : (c place : ℕ) → Contains found (Method c place) → (shape : Shape) × ShapeAt k c shape × (place < length shape.methods)
