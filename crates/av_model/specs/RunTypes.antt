-- The types that objects have at run time: of what each is an instance, and what an array takes (JVMS 2.4,
-- 4.10.1.2, 6.5 checkcast and aastore).
use Rattle.std.specs.Prelude.{◌≡◌, ℕ, ◌+◌, ◌⊎◌, List, Contains}
use Rattle.jv_types.specs.declared.desc.RefType.{RefType}
use Rattle.jv_types.specs.declared.desc.RefType as refs
use Rattle.jv_types.specs.declared.ids.ClassId.{ClassId}
use Rattle.jv_types.specs.declared.shapes.Shape.{Shape}
use Rattle.jv_world.specs.Worlds.{IsNamed, Sub}
use Rattle.jv_world.specs.Instances.{IsArraySuper}
use Rattle.av_conditions.specs.CoreClasses.{throwable_name}
use Rattle.av_states.specs.declared.run_type.RunType.{RunType, Class, Lib, Prim, Array, Array', Row_of-RunType, end_of-RunType, more_of-RunType}

-- ---- instances

-- An object of the type is an instance of the class or interface d. One of a class that nobody sees is an
-- instance of the lowest class of the world that it is or extends, of what is above that one, and of its
-- interfaces.
abbrev pub IsOfClass : List Shape → RunType → ClassId → Type 0
IsOfClass w (Class c) d = Sub w c.number d.number
IsOfClass w (Lib low ifs) d = Sub w low.number d.number ⊎ Contains ifs d
IsOfClass w (Prim prim) d = ⊥
IsOfClass w (Array' shape items) d = (name : List ℕ) × IsNamed w d.number name × IsArraySuper name

-- the same of the class or interface of this name
abbrev pub IsOfNamed : List Shape → RunType → List ℕ → Type 0
IsOfNamed w type name = (d : ClassId) × IsNamed w d.number name × IsOfClass w type d

-- An object of the type is an instance of the reference type. An array of primitives is one of the same array
-- alone among arrays; an array of references is one of each array of what its items are instances of.
abbrev mutual
  pub IsInstance : List Shape → RunType → RefType → Type 0
  IsInstance w type (refs.Class name) = IsOfNamed w type name
  IsInstance w type (refs.PrimArray prim) = type ≡ Array (Prim prim)
  IsInstance w type (refs.Array' shape items) = IsArrayOf w type items

  pub IsArrayOf : List Shape → RunType → {m : _} → refs.Row_of-RefType m → Type 0
  IsArrayOf w type refs.end_of-RefType = ⊥
  IsArrayOf w type (refs.more_of-RefType item rest) = (own : RunType) × (type ≡ Array own) × IsInstance w own item

abbrev pub IsThrowable : List Shape → RunType → Type 0
IsThrowable w type = IsOfNamed w type throwable_name

-- ---- arrays

-- an array of references, whose items are of this type
abbrev pub IsReferenceArray : RunType → RunType → Type 0
IsReferenceArray type item = (type ≡ Array item) × ((prim : _) → item ≡ Prim prim → ⊥)

-- an array of primitives
abbrev pub IsPrimitiveArray : RunType → Type 0
IsPrimitiveArray type = (prim : _) × (type ≡ Array (Prim prim))

-- An array with such items takes an object of the type. What is taken by an array of a class that nobody sees is
-- of a class that nobody sees too, at or below it, with its interfaces at least.
abbrev mutual
  pub Fits : List Shape → RunType → RunType → Type 0
  Fits w type (Class c) = IsOfClass w type c
  Fits w type (Lib low ifs) =
      (own_low : ClassId) × (own_ifs : List ClassId) × (type ≡ Lib own_low own_ifs) × Sub w own_low.number low.number
      × ((d : ClassId) → Contains ifs d → Contains own_ifs d)
  Fits w type (Prim prim) = type ≡ Prim prim
  Fits w type (Array' shape items) = FitsArray w type items

  pub FitsArray : List Shape → RunType → {m : _} → Row_of-RunType m → Type 0
  FitsArray w type end_of-RunType = ⊥
  FitsArray w type (more_of-RunType item rest) = (own : RunType) × (type ≡ Array own) × Fits w own item

-- ---- types that a program names

-- the type at run time of what a class, or an array type, names
abbrev mutual
  pub IsTypeOf : List Shape → RefType → RunType → Type 0
  IsTypeOf w (refs.Class name) type = (c : ClassId) × IsNamed w c.number name × (type ≡ Class c)
  IsTypeOf w (refs.PrimArray prim) type = type ≡ Array (Prim prim)
  IsTypeOf w (refs.Array' shape items) type = IsTypeOfItems w items type

  pub IsTypeOfItems : List Shape → {m : _} → refs.Row_of-RefType m → RunType → Type 0
  IsTypeOfItems w refs.end_of-RefType type = ⊥
  IsTypeOfItems w (refs.more_of-RefType item rest) type = (own : RunType) × (type ≡ Array own) × IsTypeOf w item own

-- ---- dimensions

-- how many arrays a type has, and what is inside them
abbrev mutual
  pub dims_of : RunType → ℕ
  dims_of (Class c) = 0
  dims_of (Lib low ifs) = 0
  dims_of (Prim prim) = 0
  dims_of (Array' shape items) = item_dims items + 1

  pub item_dims : {m : _} → Row_of-RunType m → ℕ
  item_dims end_of-RunType = 0
  item_dims (more_of-RunType item rest) = dims_of item

abbrev mutual
  pub base_of : RunType → RunType
  base_of (Class c) = Class c
  base_of (Lib low ifs) = Lib low ifs
  base_of (Prim prim) = Prim prim
  base_of (Array' shape items) = item_base items

  pub item_base : {m : _} → Row_of-RunType m → RunType
  item_base end_of-RunType = Class (record { number = 0 })
  item_base (more_of-RunType item rest) = base_of item
