-- The types of what the library makes, and the labels of what it makes.
use Rattle.std.specs.Prelude.{◌≡◌, ℕ, ◌<◌, ◌≤◌, ◌⊎◌, false, List, Some, map, slice_get, Contains}
use Rattle.std.specs.List.Sorted.{IsStrictlyIncreasing}
use Rattle.jv_types.specs.declared.ids.ClassId.{ClassId}
use Rattle.jv_types.specs.declared.label.Label.{Label}
use Rattle.jv_types.specs.declared.label.Label.TheVariants as labels
use Rattle.jv_types.specs.declared.label.LibBase.{LibBase}
use Rattle.jv_types.specs.declared.label.LibBase.TheVariants as bases
use Rattle.jv_types.specs.declared.shapes.Shape.{Shape}
use Rattle.jv_world.specs.Worlds.{object_name, IsFinal, IsNamed, Sub}
use Rattle.jv_resolve.specs.Members.{IsInterfaceClass}
use Rattle.av_conditions.specs.CoreClasses.{throwable_name}
use Rattle.av_states.specs.declared.run_type.RunType.{RunType, Class, Lib, Prim, Array', Row_of-RunType, end_of-RunType, more_of-RunType}
use Rattle.av_model.specs.RunTypes.{base_of, dims_of}

-- ---- classes of the library

-- a class or interface of the world that is the library's
abbrev pub IsLibraryClass : List Shape → ClassId → Type 0
IsLibraryClass w c = (shape : Shape) × (slice_get w c.number ≡ Some shape) × (shape.application ≡ false)

abbrev pub IsFinalClass : List Shape → ClassId → Type 0
IsFinalClass w c = (shape : Shape) × (slice_get w c.number ≡ Some shape) × IsFinal shape

-- NeverBelowApplication: what is above a class of the library is the library's too
abbrev pub NeverBelowApplication : List Shape → Type 0
NeverBelowApplication w = (c d : ClassId) → IsLibraryClass w c → Sub w c.number d.number → IsLibraryClass w d

-- the interfaces are those above the class, by rising numbers
pub record AreInterfacesOf (w : List Shape) (c : ClassId) (ifs : List ClassId) : Type 0 where
  pub all : (d : ClassId) → Sub w c.number d.number → IsInterfaceClass w d.number → Contains ifs d
  pub only : (d : ClassId) → Contains ifs d → Sub w c.number d.number × IsInterfaceClass w d.number
  pub rise : IsStrictlyIncreasing (map (λ (d : ClassId). d.number) ifs)

-- A class of the library that nobody sees: it is, or extends, the class low of the library, of those that the
-- world has the lowest, and it implements these interfaces of the library.
pub record IsUnseenClass (w : List Shape) (low : ClassId) (ifs : List ClassId) : Type 0 where
  pub lowest : IsLibraryClass w low
  pub no_interface : IsInterfaceClass w low.number → ⊥
  -- NeverBelowApplication: none of its interfaces is the application's
  pub interfaces : (d : ClassId) → Contains ifs d → IsLibraryClass w d × IsInterfaceClass w d.number
  -- it has those of low, and those above each that it has
  pub inherited : (d : ClassId) → Sub w low.number d.number → IsInterfaceClass w d.number → Contains ifs d
  pub upward : (c d : ClassId) → Contains ifs c → Sub w c.number d.number → IsInterfaceClass w d.number → Contains ifs d
  -- where low is final, it is low itself
  pub exact : IsFinalClass w low → (d : ClassId) → Contains ifs d → Sub w low.number d.number
  pub rise : IsStrictlyIncreasing (map (λ (d : ClassId). d.number) ifs)

-- ---- what the library makes

-- the items of an array that the library makes: of a class or interface of the library, of a class that nobody
-- sees, of a primitive type, or arrays of such items
abbrev mutual
  pub IsLibraryItem : List Shape → RunType → Type 0
  IsLibraryItem w (Class c) = IsLibraryClass w c
  IsLibraryItem w (Lib low ifs) = IsUnseenClass w low ifs
  IsLibraryItem w (Prim prim) = Unit {0}
  IsLibraryItem w (Array' shape items) = AreLibraryItems w items

  pub AreLibraryItems : List Shape → {m : _} → Row_of-RunType m → Type 0
  AreLibraryItems w end_of-RunType = ⊥
  AreLibraryItems w (more_of-RunType item rest) = IsLibraryItem w item

-- an object of a class that nobody sees, or an array of such items
abbrev pub IsLibraryType : List Shape → RunType → Type 0
IsLibraryType w (Class c) = ⊥
IsLibraryType w (Lib low ifs) = IsUnseenClass w low ifs
IsLibraryType w (Prim prim) = ⊥
IsLibraryType w (Array' shape items) = AreLibraryItems w items

-- an object of a class that nobody sees whose lowest class is Throwable or below it
abbrev pub IsRaised : List Shape → RunType → Type 0
IsRaised w type =
    (low : ClassId) × (ifs : List ClassId) × (type ≡ Lib low ifs) × IsUnseenClass w low ifs
    × ((d : ℕ) × IsNamed w d throwable_name × Sub w low.number d)

-- ---- labels

-- the class of a label: of an interface it is Object
abbrev pub IsLabelClass : List Shape → ClassId → ClassId → Type 0
IsLabelClass w c of = ((IsInterfaceClass w c.number → ⊥) × (of ≡ c)) ⊎ (IsInterfaceClass w c.number × IsNamed w of.number object_name)

-- what stands at the base of a label, for what is inside all arrays of a type
abbrev pub IsLabelBase : List Shape → RunType → LibBase → Type 0
IsLabelBase w (Class c) base = (of : ClassId) × (base ≡ bases.Class of) × IsLabelClass w c of
IsLabelBase w (Lib low ifs) base = base ≡ bases.Class low
IsLabelBase w (Prim prim) base = base ≡ bases.Prim prim
IsLabelBase w (Array' shape items) base = ⊥

-- The label of what the library makes of a type. An array of more than `most` dimensions has that of an array of
-- Object of so many.
abbrev pub LabelOf : List Shape → ℕ → RunType → Label → Type 0
LabelOf w most type label =
    ((dims_of type ≤ most) × ((base : LibBase) × (label ≡ labels.Lib base (dims_of type)) × IsLabelBase w (base_of type) base))
    ⊎ ((most < dims_of type) × ((object : ClassId) × (label ≡ labels.Lib (bases.Class object) most) × IsNamed w object.number object_name))
