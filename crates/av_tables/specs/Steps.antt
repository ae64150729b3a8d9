-- What only private functions and the rules over these tables say.
use Rattle.std.specs.Prelude.{◌≡◌, ◌↔◌, ◌<◌, ◌≤◌, ◌⊎◌, ◌^◌, ℕ, List, Option, Some, length, slice_get, Contains}
use Rattle.std.specs.Ordering.{nat_cmp}
use Rattle.std.specs.Cmp.Lexicographic.{slice_cmp}
use Rattle.jv_types.specs.declared.shapes.MethodShape.{MethodShape}
use Rattle.jv_types.specs.declared.shapes.Shape.{Shape}
use Rattle.jv_fix.specs.Order.{IsSet}
use Rattle.av_collected.specs.Libraries.{LibraryFile}
use Rattle.av_tables.specs.Tables.{Known, IsMemberOf, signature_of}
use Rattle.av_tables.specs.declared.classes.Classes.{Classes}
use Rattle.av_tables.specs.declared.member.Member.{Member}
use Rattle.av_tables.specs.declared.signature.Signature.{Signature}
use Rattle.av_tables.specs.contracts.signature.SignatureOrd as signature_ord

-- what the tables say, as lists
abbrev pub known : Classes → Known
known c = record { names = c.names.items; places = c.places.items; files = c.files.now; signatures = c.signatures.items }

-- a set gains the signatures of methods
pub record Gains (methods : List MethodShape) (old new : List Signature) : Type 0 where
  pub kept : (each : Signature) → Contains old each → Contains new each
  pub has : (method : MethodShape) → Contains methods method → Contains new (signature_of method)

-- or those of the methods of a file
pub record GainsFile (file : LibraryFile) (old new : List Signature) : Type 0 where
  pub kept : (each : Signature) → Contains old each → Contains new each
  pub has : (shape : Shape) (method : MethodShape) → file.shape ≡ Some shape → Contains shape.methods method → Contains new (signature_of method)

-- each method of each of these files has its signature in the list
abbrev pub HaveSignatures : List LibraryFile → List Signature → Type 0
HaveSignatures files signatures =
    (file : LibraryFile) (shape : Shape) (method : MethodShape) → Contains files file → file.shape ≡ Some shape → Contains shape.methods method
    → Contains signatures (signature_of method)

-- the classes of these files have at most so many members as numbers of 16 bits name
abbrev pub AreSmall : List LibraryFile → Type 0
AreSmall files =
    (file : LibraryFile) (shape : Shape) → Contains files file → file.shape ≡ Some shape → (length shape.methods < 2 ^ 16) × (length shape.fields < 2 ^ 16)

-- by the number of a signature, the methods that have it, of the places of which P holds
pub record AreMembers (P : ℕ → ℕ → Type 0) (k : Known) (members : List (List Member)) : Type 0 where
  pub count : length members ≡ length k.signatures
  pub exact : (s : ℕ) (row : List Member) (m : Member) → slice_get members s ≡ Some row → Contains row m ↔ (IsMemberOf k s m.class m.place × P m.class m.place)

-- all places
abbrev pub Anywhere : ℕ → ℕ → Type 0
Anywhere c place = Unit {0}

-- those of the classes below a number
abbrev pub InClassesBelow : ℕ → ℕ → ℕ → Type 0
InClassesBelow n c place = c < n

-- and those of the class of this number below a place
abbrev pub InPlacesBelow : ℕ → ℕ → ℕ → ℕ → Type 0
InPlacesBelow n at c place = (c < n) ⊎ ((c ≡ n) × (place < at))

-- the files below a place stand at the numbers of their classes
pub record ArePlacesBelow (n : ℕ) (names : List (List ℕ)) (files : List LibraryFile) (places : List (Option ℕ)) : Type 0 where
  pub count : length places ≡ length names
  pub there : (c place : ℕ) → slice_get places c ≡ Some (Some place)
      → (file : LibraryFile) × (slice_get files place ≡ Some file) × (slice_get names c ≡ Some file.name)
  pub all : (c place : ℕ) (file : LibraryFile) → place < n → slice_get files place ≡ Some file → slice_get names c ≡ Some file.name
      → (other : ℕ) × (slice_get places c ≡ Some (Some other))

-- the tables are in order, and have all that they are to have
pub record AreKept (k : Known) (members : List (List Member)) : Type 0 where
  pub names : IsSet (slice_cmp nat_cmp) k.names
  pub signatures : IsSet signature_ord.TheImpl.ghosts.cmp k.signatures
  pub covered : HaveSignatures k.files k.signatures
  pub small : AreSmall k.files
  pub sorted : AreMembers Anywhere k members
