-- The places of a list in the order of the keys of its elements: what a world keeps of the members of each class.
use Rattle.std.specs.Prelude.{◌≡◌, ℕ, List, Option, Some, length, option_map, slice_get}
use Rattle.std.specs.List.{range_with_len}
use Rattle.std.specs.List.Sorted.{IsPermutation, IsSorted}
use Rattle.std.specs.Option.{option_cmp}
use Rattle.std.specs.Ordering.{nat_cmp, ordering_then}
use Rattle.std.specs.Cmp.Lexicographic.{slice_cmp}
use Rattle.std.specs.declared.cmp.Ordering.{Ordering}
use Rattle.jv_types.specs.declared.desc.Desc.{Desc}
use Rattle.jv_types.specs.declared.desc.MethodDesc.{MethodDesc}
use Rattle.jv_types.specs.declared.shapes.FieldShape.{FieldShape}
use Rattle.jv_types.specs.declared.shapes.MethodShape.{MethodShape}
use Rattle.jv_types.specs.declared.shapes.Shape.{Shape}
use Rattle.jv_types.specs.contracts.desc.DescOrd.TheImpl as desc_ord
use Rattle.jv_types.specs.contracts.desc.MethodDescOrd.TheImpl as method_desc_ord
use Rattle.jv_world.specs.declared.members.Members.{Members}

-- the key of the element at a place; none past the end
abbrev pub key_at : {X K : Type 0} → (X → K) → List X → ℕ → Option K
key_at key xs place = option_map key (slice_get xs place)

-- which of two places comes first: by the keys, and then by the places
abbrev pub place_cmp : {X K : Type 0} → (K → K → Ordering) → (X → K) → List X → ℕ → ℕ → Ordering
place_cmp R key xs a b = ordering_then (option_cmp R (key_at key xs a) (key_at key xs b)) (nat_cmp a b)

-- all places of the list, each once, in that order
pub record AreOrdered {X K : Type 0} (R : K → K → Ordering) (key : X → K) (xs : List X) (places : List ℕ) : Type 0 where
  pub all : IsPermutation (range_with_len 0 (length xs)) places
  pub rising : IsSorted (place_cmp R key xs) places

-- by names, and then by what comes beside them
abbrev pub named_cmp : {D : Type 0} → (D → D → Ordering) → List ℕ × D → List ℕ × D → Ordering
named_cmp R x y = ordering_then (slice_cmp nat_cmp x.0 y.0) (R x.1 y.1)

abbrev pub method_key : MethodShape → List ℕ × MethodDesc
method_key method = (method.name, method.desc)

abbrev pub method_key_cmp : List ℕ × MethodDesc → List ℕ × MethodDesc → Ordering
method_key_cmp = named_cmp (method_desc_ord.ghosts).cmp

abbrev pub field_key : FieldShape → List ℕ × Desc
field_key field = (field.name, field.desc)

abbrev pub field_key_cmp : List ℕ × Desc → List ℕ × Desc → Ordering
field_key_cmp = named_cmp (desc_ord.ghosts).cmp

-- the places of a class's methods and of its fields
pub record AreMembers (shape : Shape) (members : Members) : Type 0 where
  pub methods : AreOrdered method_key_cmp method_key shape.methods members.methods.items
  pub fields : AreOrdered field_key_cmp field_key shape.fields members.fields.items

-- those of the first n classes
pub record AreIndexed (w : List Shape) (n : ℕ) (rows : List Members) : Type 0 where
  pub count : length rows ≡ n
  pub each : (c : ℕ) (shape : Shape) (row : Members) → slice_get w c ≡ Some shape → slice_get rows c ≡ Some row → AreMembers shape row
