-- Where a class declares a method or a field of a name and a descriptor (JVMS 4.5, 4.6).
use Rattle.std.specs.Prelude.{◌≡◌, ℕ, ◌<◌, List, Some}
use Rattle.std.specs.List.{slice_get}
use Rattle.jv_types.specs.declared.desc.Desc.{Desc}
use Rattle.jv_types.specs.declared.desc.MethodDesc.{MethodDesc}
use Rattle.jv_types.specs.declared.shapes.FieldShape.{FieldShape}
use Rattle.jv_types.specs.declared.shapes.MethodShape.{MethodShape}
use Rattle.jv_types.specs.declared.shapes.Shape.{Shape}

-- P holds of no element at a place below n
abbrev pub NoneBelow : {X : Type 0} → (X → Type 0) → List X → ℕ → Type 0
NoneBelow {X} P xs n = (k : ℕ) (x : X) → k < n → slice_get xs k ≡ Some x → ¬ P x

-- P holds of the element at the place n, and of none before it
abbrev pub IsFirstPlace : {X : Type 0} → (X → Type 0) → List X → ℕ → Type 0
IsFirstPlace {X} P xs n = (x : X) × (slice_get xs n ≡ Some x) × P x × NoneBelow P xs n

-- P holds of no element
abbrev pub NoneIn : {X : Type 0} → (X → Type 0) → List X → Type 0
NoneIn {X} P xs = (k : ℕ) (x : X) → slice_get xs k ≡ Some x → ¬ P x

-- the method has this name and descriptor
abbrev pub IsMethodOf : List ℕ → MethodDesc → MethodShape → Type 0
IsMethodOf name desc method = (method.name ≡ name) × (method.desc ≡ desc)

-- the field has this name and type
abbrev pub IsFieldOf : List ℕ → Desc → FieldShape → Type 0
IsFieldOf name desc field = (field.name ≡ name) × (field.desc ≡ desc)

-- the first method of the class c with this name and descriptor stands at the place n
abbrev pub IsMethodPlace : List Shape → ℕ → List ℕ → MethodDesc → ℕ → Type 0
IsMethodPlace w c name desc n = (shape : Shape) × (slice_get w c ≡ Some shape) × IsFirstPlace (IsMethodOf name desc) shape.methods n

-- the class c declares no such method
abbrev pub HasNoMethod : List Shape → ℕ → List ℕ → MethodDesc → Type 0
HasNoMethod w c name desc = (shape : Shape) → slice_get w c ≡ Some shape → NoneIn (IsMethodOf name desc) shape.methods

-- the first field of the class c with this name and type stands at the place n
abbrev pub IsFieldPlace : List Shape → ℕ → List ℕ → Desc → ℕ → Type 0
IsFieldPlace w c name desc n = (shape : Shape) × (slice_get w c ≡ Some shape) × IsFirstPlace (IsFieldOf name desc) shape.fields n

-- the class c declares no such field
abbrev pub HasNoField : List Shape → ℕ → List ℕ → Desc → Type 0
HasNoField w c name desc = (shape : Shape) → slice_get w c ≡ Some shape → NoneIn (IsFieldOf name desc) shape.fields
