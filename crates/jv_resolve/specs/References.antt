-- What a reference names (JVMS 4.4.2).
use Rattle.std.specs.Prelude.{◌≡◌, ℕ, List, Option, Some, None, unwrap_or}
use Rattle.jv_types.specs.declared.desc.RefType.{RefType, Class, PrimArray, Array'}
use Rattle.jv_types.specs.declared.shapes.Shape.{Shape}
use Rattle.jv_world.specs.Worlds.{IsNamed, object_name}
use Rattle.jv_resolve.specs.Members.{IsInterfaceClass}

-- the name of the class, where the type is no array
abbrev pub named_class : RefType → Option (List ℕ)
named_class (Class name) = Some name
named_class (PrimArray prim) = None
named_class (Array' shape items) = None

abbrev pub IsArray : RefType → Type 0
IsArray type = named_class type ≡ None

-- the search for a method of a reference to this type begins at the class c: for an array it is Object
abbrev pub BeginsAt : List Shape → RefType → ℕ → Type 0
BeginsAt w type c = IsNamed w c (unwrap_or (named_class type) object_name)

-- the type is an interface of the world
abbrev pub IsInterfaceType : List Shape → RefType → Type 0
IsInterfaceType w type = (name : List ℕ) × (c : ℕ) × (named_class type ≡ Some name) × IsNamed w c name × IsInterfaceClass w c
