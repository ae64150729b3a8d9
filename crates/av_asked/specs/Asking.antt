-- What collection asks of a source, and what it was told.
use Rattle.std.specs.Prelude.{◌≡◌, ℕ, ◌++◌, ◌⊎◌, List, [], ◌∷◌, Option, Some, length, drop, Contains}
use Rattle.jv_types.specs.declared.shapes.Shape.{Shape}
use Rattle.av_collected.specs.declared.method_body.MethodBody.{MethodBody}
use Rattle.av_collected.specs.Libraries.{LibraryFile, IsLibrary}
use Rattle.av_collected.specs.Naming.{Application}

-- the application that is handed in
abbrev pub application : List Shape → List (List ℕ) → List MethodBody → Application
application app named code = record { shapes = app; maps = named; bodies = code }

-- The library is the one that is told, and a finite map within the bounds of class files, as each source promises.
pub record IsTold (answer : Option (List LibraryFile)) (library : List LibraryFile) : Type 0 where
  pub told : answer ≡ Some library
  pub map : IsLibrary library

-- each shape that the library has is stated
abbrev pub AreStated : (Shape → Type 0) → List LibraryFile → Type 0
AreStated stated library = (file : LibraryFile) (shape : Shape) → Contains library file → file.shape ≡ Some shape → stated shape

-- the names that a list has after those that it had before
abbrev pub added : List (List ℕ) → List (List ℕ) → List (List ℕ)
added old new = drop (length old) new

-- a list grew at its end, if at all
abbrev pub Grows : List (List ℕ) → List (List ℕ) → Type 0
Grows old new = new ≡ old ++ added old new

-- no name stands twice in the list
abbrev pub AreDistinct : List (List ℕ) → Type 0
AreDistinct [] = Unit {0}
AreDistinct (name ∷ names) = ¬ Contains names name × AreDistinct names

-- the names are just those of which P holds
abbrev pub AreThose : (List ℕ → Type 0) → List (List ℕ) → Type 0
AreThose P names = (name : List ℕ) → (Contains names name → P name) × (P name → Contains names name)

-- the names that were asked for are those that were answered, and at most one more, that of the last call
abbrev pub AskedPast : List (List ℕ) → List (List ℕ) → Type 0
AskedPast replied names = (names ≡ replied) ⊎ ((last : List ℕ) × (names ≡ replied ++ last ∷ []))
