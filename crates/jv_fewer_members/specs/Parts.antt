-- A world and a part of it: the same classes under the same numbers, each with some of its members (JVMS 4.1, 4.5,
-- 4.6).
use Rattle.std.specs.Prelude.{◌≡◌, ◌↔◌, ℕ, ◌<◌, List, Some, length, slice_get}
use Rattle.jv_types.specs.declared.ids.FieldId.{FieldId}
use Rattle.jv_types.specs.declared.ids.MethodId.{MethodId}
use Rattle.jv_types.specs.declared.shapes.Shape.{Shape}
use Rattle.jv_world.specs.Worlds.{IsFinal, IsInterface, IsWorld}
use Rattle.jv_resolve.specs.Members.{HasField, HasMethod, IsPublic}
use Rattle.jv_two_worlds.specs.SameClasses.{IsSameField, IsSameMethod}

-- Some elements of a list, in their order: the one at the place k is the same, as R says, as the one at the place `at k` of the whole list.
pub record AreSomeOf {X : Type 0} (R : X → X → Type 0) (all some : List X) (at : ℕ → ℕ) : Type 0 where
  pub each : (k : ℕ) (x : X) → slice_get some k ≡ Some x → (y : X) × (slice_get all (at k) ≡ Some y) × R y x
  pub rising : (j k : ℕ) → j < k → k < length some → at j < at k

-- The same class, with some of its members. The places are those of its fields and of its methods in the whole class. As between two worlds, other flags, codes and the mark of the application may differ.
pub record IsPartOf (shape part : Shape) (field_at method_at : ℕ → ℕ) : Type 0 where
  pub name : shape.name ≡ part.name
  pub public : IsPublic shape.flags ↔ IsPublic part.flags
  pub interface : IsInterface shape ↔ IsInterface part
  pub parent : shape.parent ≡ part.parent
  pub interfaces : shape.interfaces ≡ part.interfaces
  pub fields : AreSomeOf IsSameField shape.fields part.fields field_at
  pub methods : AreSomeOf IsSameMethod shape.methods part.methods method_at

-- for each class and each place of a member there, the place of the same member in the whole class
pub record Places : Type 0 where
  pub of_field : ℕ → ℕ → ℕ
  pub of_method : ℕ → ℕ → ℕ

-- v has the classes of the world w, place for place, each with some of its members
pub record HasFewerMembers (w v : List Shape) (at : Places) : Type 0 where
  pub world : IsWorld w
  pub count : length v ≡ length w
  pub shapes : (c : ℕ) (shape : Shape) → slice_get w c ≡ Some shape → (part : Shape) × (slice_get v c ≡ Some part) × IsPartOf shape part (at.of_field c) (at.of_method c)

-- a class is final in both, or in neither
abbrev pub HaveSameFinals : List Shape → List Shape → Type 0
HaveSameFinals w v = (c : ℕ) (shape part : Shape) → slice_get w c ≡ Some shape → slice_get v c ≡ Some part → IsFinal shape ↔ IsFinal part

-- the same field in the whole class
abbrev pub whole_field : Places → FieldId → FieldId
whole_field at f = record { class = f.class; index = at.of_field f.class.number f.index }

-- the same method in the whole class
abbrev pub whole_method : Places → MethodId → MethodId
whole_method at m = record { class = m.class; index = at.of_method m.class.number m.index }

-- the field of the whole world stands in the part v
abbrev pub IsFieldKept : List Shape → Places → FieldId → Type 0
IsFieldKept v at f = (part : FieldId) × HasField v part × (f ≡ whole_field at part)

-- the method of the whole world stands in the part v
abbrev pub IsMethodKept : List Shape → Places → MethodId → Type 0
IsMethodKept v at m = (part : MethodId) × HasMethod v part × (m ≡ whole_method at part)
