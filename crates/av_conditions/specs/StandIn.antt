-- What the classes of a world have where a stand-in takes the place of the library: the class averroes/Library
-- with its two static fields, and for each library class that may be extended a class of any object of it.
use Rattle.std.specs.Prelude.{◌≡◌, ℕ, false, ◌++◌, List, Some, codes, Contains}
use Rattle.jv_types.specs.declared.desc.Desc.{Desc}
use Rattle.jv_types.specs.declared.desc.Desc.TheVariants.{Ref}
use Rattle.jv_types.specs.declared.desc.RefType.{Class}
use Rattle.jv_types.specs.declared.shapes.FieldShape.{FieldShape}
use Rattle.jv_types.specs.declared.shapes.Shape.{Shape}
use Rattle.jv_world.specs.Worlds.{object_name, IsFinal, IsInterface}

abbrev pub library_name : List ℕ
library_name = codes "averroes/Library"

-- the field that holds what the library knows, and the one that holds what was only made
abbrev pub known_name : List ℕ
known_name = codes "known"

abbrev pub fresh_name : List ℕ
fresh_name = codes "fresh"

-- the name of the class that stands for any object of a library class
abbrev pub any_name : List ℕ → List ℕ
any_name name = name ++ codes "$averroes$any"

abbrev pub object_desc : Desc
object_desc = Ref (Class object_name)

-- the class declares the public static field of this name that holds any object
abbrev pub DeclaresHolder : Shape → List ℕ → Type 0
DeclaresHolder shape name =
    (field : FieldShape) × Contains shape.fields field × (field.name ≡ name) × (field.desc ≡ object_desc) × (field.flags.0 ≡ 9)

-- averroes/Library: public and final, below Object, with the two fields
pub record IsLibrary (shape : Shape) : Type 0 where
  pub name : shape.name ≡ library_name
  pub of_library : shape.application ≡ false
  pub flags : shape.flags.0 ≡ 49
  pub parent : shape.parent ≡ Some object_name
  pub known : DeclaresHolder shape known_name
  pub fresh : DeclaresHolder shape fresh_name

-- the name is that of an interface of the library
abbrev pub IsLibraryInterface : List Shape → List ℕ → Type 0
IsLibraryInterface w name = (shape : Shape) × Contains w shape × (shape.name ≡ name) × (shape.application ≡ false) × IsInterface shape

-- the class of any object of another one: public and final, below it, with each interface of the library
pub record IsAnyOf (w : List Shape) (class any : Shape) : Type 0 where
  pub name : any.name ≡ any_name class.name
  pub of_library : any.application ≡ false
  pub flags : any.flags.0 ≡ 49
  pub parent : any.parent ≡ Some class.name
  pub each_interface : (name : List ℕ) → IsLibraryInterface w name → Contains any.interfaces name
  pub no_other : (name : List ℕ) → Contains any.interfaces name → IsLibraryInterface w name

-- the world has averroes/Library, and the class of any object of each library class that is neither final nor
-- an interface
pub record HasStandIn (w : List Shape) : Type 0 where
  pub library : (shape : Shape) × Contains w shape × IsLibrary shape
  pub any : (class : Shape) → Contains w class → class.application ≡ false → ¬ IsFinal class → ¬ IsInterface class
      → (shape : Shape) × Contains w shape × IsAnyOf w class shape
