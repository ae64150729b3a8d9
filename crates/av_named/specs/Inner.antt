-- The class inside a type, as a function.
use Rattle.std.specs.Prelude.{ℕ, List, Option, None, Some}
use Rattle.jv_types.specs.declared.desc.RefType.{RefType, Class, PrimArray, Array', Row_of-RefType, end_of-RefType, more_of-RefType}

-- the name of the class or interface below all dimensions, if there is one
abbrev mutual
  pub inner_name : RefType → Option (List ℕ)
  inner_name (Class name) = Some name
  inner_name (PrimArray prim) = None
  inner_name (Array' shape all) = item_name all

  pub item_name : {m : _} → Row_of-RefType m → Option (List ℕ)
  item_name end_of-RefType = None
  item_name (more_of-RefType item rest) = inner_name item
