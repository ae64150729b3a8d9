-- The class inside a type.
use Rattle.std.specs.Prelude.{◌≡◌, ℕ, List}
use Rattle.jv_types.specs.declared.desc.RefType.{RefType, Class, Array}

-- this is the name of the class or interface that stands in the type, below all its dimensions
pub data EndsIn : RefType → List ℕ → Type 0 where
  of_class : (type : RefType) (name : List ℕ) → type ≡ Class name → EndsIn type name
  of_items : (type item : RefType) (name : List ℕ) → type ≡ Array item → EndsIn item name → EndsIn type name
