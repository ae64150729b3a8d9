-- Which reference types are instances of which (JVMS 4.10.1.2, JLS 4.10.3).
use Rattle.std.specs.Prelude.{◌≡◌, ℕ, ◌<◌, ◌⊎◌, List, Some, length, slice_get, codes}
use Rattle.jv_types.specs.declared.desc.RefType.{RefType, Class, PrimArray, Array, Array', Row_of-RefType, end_of-RefType, more_of-RefType}
use Rattle.jv_types.specs.declared.label.LibBase.{LibBase}
use Rattle.jv_types.specs.declared.label.LibBase.TheVariants.{Class as LibClass, Prim as LibPrim}
use Rattle.jv_types.specs.declared.shapes.Shape.{Shape}
use Rattle.jv_world.specs.Worlds.{object_name, IsInterface, IsNamed, Sub}

-- the class of one name is a subtype of the class of the other: the names are the same, or both classes
-- are there and links lead from one to the other
abbrev pub IsSubNamed : List Shape → List ℕ → List ℕ → Type 0
IsSubNamed w name of = (name ≡ of) ⊎ ((c : ℕ) × (d : ℕ) × IsNamed w c name × IsNamed w d of × Sub w c d)

-- the name is that of an interface of the world
abbrev pub IsInterfaceNamed : List Shape → List ℕ → Type 0
IsInterfaceNamed w name = (c : ℕ) × (shape : Shape) × (slice_get w c ≡ Some shape) × (shape.name ≡ name) × IsInterface shape

-- the three classes and interfaces that every array is an instance of
abbrev pub IsArraySuper : List ℕ → Type 0
IsArraySuper name = (name ≡ object_name) ⊎ ((name ≡ codes "java/lang/Cloneable") ⊎ (name ≡ codes "java/io/Serializable"))

-- an object of the type is an instance of the class or interface of this name
abbrev pub IsInstanceOfClass : List Shape → RefType → List ℕ → Type 0
IsInstanceOfClass w (Class name) of = IsSubNamed w name of
IsInstanceOfClass w (PrimArray prim) of = IsArraySuper of
IsInstanceOfClass w (Array' shape items) of = IsArraySuper of

-- An object of the first type is an instance of the second. An array of primitives is one of the same array
-- alone among arrays; an array of references is one of each array of what its items are instances of.
abbrev mutual
  pub IsInstanceOf : List Shape → RefType → RefType → Type 0
  IsInstanceOf w type (Class of) = IsInstanceOfClass w type of
  IsInstanceOf w type (PrimArray prim) = type ≡ PrimArray prim
  IsInstanceOf w type (Array' shape items) = IsArrayOf w type items

  pub IsArrayOf : List Shape → RefType → {m : _} → Row_of-RefType m → Type 0
  IsArrayOf w type end_of-RefType = ⊥
  IsArrayOf w type (more_of-RefType item rest) = (own : RefType) × (type ≡ Array own) × IsInstanceOf w own item

-- ---- types by a base and as many dimensions

-- a class of the base is one of the world
abbrev pub IsBaseHere : List Shape → LibBase → Type 0
IsBaseHere w (LibClass c) = c.number < length w
IsBaseHere w (LibPrim prim) = Unit {0}

-- with as many dimensions, the one base is an instance of the other: a subtype of a class, or the same primitive type
abbrev pub IsBaseInstance : List Shape → LibBase → LibBase → Type 0
IsBaseInstance w (LibClass c) (LibClass d) = Sub w c.number d.number
IsBaseInstance w (LibClass c) (LibPrim prim) = ⊥
IsBaseInstance w (LibPrim prim) (LibClass d) = ⊥
IsBaseInstance w (LibPrim prim) (LibPrim other) = prim ≡ other

-- every array is an instance of the base
abbrev pub IsArraySuperBase : List Shape → LibBase → Type 0
IsArraySuperBase w (LibClass d) = (name : List ℕ) × IsNamed w d.number name × IsArraySuper name
IsArraySuperBase w (LibPrim prim) = ⊥

-- An object of the first type is an instance of the second: of as many dimensions where its base is one, and of
-- fewer where that base is what every array is an instance of.
abbrev pub IsInstanceInDims : List Shape → LibBase → ℕ → LibBase → ℕ → Type 0
IsInstanceInDims w base dims of of_dims =
    ((dims ≡ of_dims) × IsBaseInstance w base of) ⊎ ((of_dims < dims) × IsArraySuperBase w of)
