-- The classes of a library, and those of the application beside it.
use Rattle.std.specs.Prelude.{◌≡◌, ℕ, ◌<◌, ◌≤◌, ◌^◌, ◌⊎◌, false, List, Option, Some, length, slice_get, Contains}
use Rattle.jv_types.specs.declared.shapes.FieldShape.{FieldShape}
use Rattle.jv_types.specs.declared.shapes.MethodShape.{MethodShape}
use Rattle.jv_types.specs.declared.shapes.Shape.{Shape}
use Rattle.jv_world.specs.Worlds.{IsWorld}
use Rattle.av_collected.specs.Types.{dims_of, MentionsDims}

-- ---- what a library has

-- What a library has under a name: the shape of the class, or none where the file is malformed. A name of which a
-- library says nothing is absent.
pub record LibraryFile : Type 0 where
  pub name : List ℕ
  pub shape : Option Shape

-- the bounds of what a class file declares: numbers of 16 bits name its members (JVMS 4.1), and no type of theirs
-- has more than 255 dimensions (JVMS 4.3.2)
pub record IsBounded (shape : Shape) : Type 0 where
  pub fields : length shape.fields < 2 ^ 16
  pub methods : length shape.methods < 2 ^ 16
  pub field_dims : (field : FieldShape) → Contains shape.fields field → dims_of field.desc ≤ 255
  pub method_dims : (method : MethodShape) (dims : ℕ) → Contains shape.methods method → MentionsDims method.desc dims → dims ≤ 255

-- a library may have this shape under this name
pub record IsLibraryShape (name : List ℕ) (shape : Shape) : Type 0 where
  pub named : shape.name ≡ name
  pub of_library : shape.application ≡ false
  pub bounded : IsBounded shape

-- a finite map from names: each name once
pub record IsLibrary (library : List LibraryFile) : Type 0 where
  pub once : (file other : LibraryFile) → Contains library file → Contains library other → file.name ≡ other.name → file ≡ other
  pub shapes : (file : LibraryFile) (shape : Shape) → Contains library file → file.shape ≡ Some shape → IsLibraryShape file.name shape

-- the library has a file of this name
abbrev pub HasFile : List LibraryFile → List ℕ → Type 0
HasFile library name = (file : LibraryFile) × Contains library file × (file.name ≡ name)

-- the library has this shape under this name
abbrev pub HasShape : List LibraryFile → List ℕ → Shape → Type 0
HasShape library name shape = (file : LibraryFile) × Contains library file × (file.name ≡ name) × (file.shape ≡ Some shape)

-- the class of this name in the library has this field, or this method, at this place
abbrev pub HasFieldAt : List LibraryFile → List ℕ → ℕ → FieldShape → Type 0
HasFieldAt library class place field = (shape : Shape) × HasShape library class shape × (slice_get shape.fields place ≡ Some field)

abbrev pub HasMethodAt : List LibraryFile → List ℕ → ℕ → MethodShape → Type 0
HasMethodAt library class place method = (shape : Shape) × HasShape library class shape × (slice_get shape.methods place ≡ Some method)

-- ---- the application beside it

-- a class of the application has this name
abbrev pub IsOfApplication : List Shape → List ℕ → Type 0
IsOfApplication app name = (shape : Shape) × Contains app shape × (shape.name ≡ name)

-- the name is that of a library class: the application has no class of this name
abbrev pub IsOfLibrary : List Shape → List ℕ → Type 0
IsOfLibrary app name = (shape : Shape) → Contains app shape → ¬ (shape.name ≡ name)

-- The class is one of the application, or one of the library whose name the application leaves to it.
abbrev pub IsHere : List Shape → List LibraryFile → Shape → Type 0
IsHere app library shape = Contains app shape ⊎ (IsOfLibrary app shape.name × HasShape library shape.name shape)

-- Whole classes: they make a world. So each supertype of each of them is among them and of the right kind, and no
-- class is its own proper supertype (JVMS 4.1, 5.3.5).
pub record AreWhole (app : List Shape) (library : List LibraryFile) (w : List Shape) : Type 0 where
  pub world : IsWorld w
  pub here : (shape : Shape) → Contains w shape → IsHere app library shape
