-- The classes of a library by number, and what stands at their numbers.
use Rattle.std.specs.Prelude.{◌≡◌, ◌↔◌, ◌<◌, ◌^◌, ℕ, List, Option, Some, length, slice_get, Contains}
use Rattle.jv_types.specs.declared.shapes.FieldShape.{FieldShape}
use Rattle.jv_types.specs.declared.shapes.MethodShape.{MethodShape}
use Rattle.jv_types.specs.declared.shapes.Shape.{Shape}
use Rattle.jv_fix.specs.Order.{IsSet}
use Rattle.av_collected.specs.Libraries.{LibraryFile}
use Rattle.av_collected.specs.Rules.{IsOpenInstance}
use Rattle.av_tables.specs.declared.signature.Signature.{Signature}

-- Names in rising order, whose places are the numbers of the classes; for each the place of its file, where it was
-- read; the files; and the names and descriptors of methods, in rising order.
pub record Known : Type 0 where
  pub names : List (List ℕ)
  pub places : List (Option ℕ)
  pub files : List LibraryFile
  pub signatures : List Signature

-- the class of this number has this name
abbrev pub NameAt : Known → ℕ → List ℕ → Type 0
NameAt k c name = slice_get k.names c ≡ Some name

-- the class of this number has this file
abbrev pub FileAt : Known → ℕ → LibraryFile → Type 0
FileAt k c file = (place : ℕ) × (slice_get k.places c ≡ Some (Some place)) × (slice_get k.files place ≡ Some file)

-- the class of this number has this shape
abbrev pub ShapeAt : Known → ℕ → Shape → Type 0
ShapeAt k c shape = (file : LibraryFile) × FileAt k c file × (file.shape ≡ Some shape)

-- it declares this field, or this method, at this place
abbrev pub DeclaresField : Known → ℕ → ℕ → FieldShape → Type 0
DeclaresField k c place field = (shape : Shape) × ShapeAt k c shape × (slice_get shape.fields place ≡ Some field)

abbrev pub DeclaresMethod : Known → ℕ → ℕ → MethodShape → Type 0
DeclaresMethod k c place method = (shape : Shape) × ShapeAt k c shape × (slice_get shape.methods place ≡ Some method)

-- the name and the descriptor of a method
abbrev pub signature_of : MethodShape → Signature
signature_of method = record { name = method.name; desc = method.desc }

-- the method has the name and the descriptor of this number
abbrev pub HasSignature : Known → ℕ → MethodShape → Type 0
HasSignature k s method = slice_get k.signatures s ≡ Some (signature_of method)

-- an instance method of the class, not private, that has them
abbrev pub IsMemberOf : Known → ℕ → ℕ → ℕ → Type 0
IsMemberOf k s c place = (method : MethodShape) × DeclaresMethod k c place method × IsOpenInstance method × HasSignature k s method

-- the files of the classes stand at their numbers
pub record ArePlaces (names : List (List ℕ)) (files : List LibraryFile) (places : List (Option ℕ)) : Type 0 where
  pub count : length places ≡ length names
  pub there : (c place : ℕ) → slice_get places c ≡ Some (Some place)
      → (file : LibraryFile) × (slice_get files place ≡ Some file) × (slice_get names c ≡ Some file.name)
  pub all : (c : ℕ) (file : LibraryFile) → Contains files file → slice_get names c ≡ Some file.name
      → (place : ℕ) × (slice_get places c ≡ Some (Some place))
