-- The order of members by name and descriptor, and values that differ by them.
use Rattle.std.specs.Prelude.{◌≡◌, ℕ, List, Contains}
use Rattle.std.specs.declared.cmp.Ordering.{Ordering}
use Rattle.std.specs.Cmp.{IsTotalOrder, then_total, on_total}
use Rattle.std.specs.Cmp.Lexicographic.{nat_list_cmp_total}
use Rattle.jv_types.specs.declared.shapes.FieldShape.{FieldShape}
use Rattle.jv_desc.specs.Texts.{desc_text, method_text}
use Rattle.av_sketches.specs.declared.sketch.SketchedMethod.{SketchedMethod}
use Rattle.av_standin_of.specs.Names.{member_order, method_key}
use Rattle.av_sorted.specs.declared.row.Row.{Row}

pub member_order_total : IsTotalOrder member_order
member_order_total =
    then_total (on_total (λ (key : List ℕ × List ℕ). key.0) nat_list_cmp_total) (on_total (λ (key : List ℕ × List ℕ). key.1) nat_list_cmp_total)

-- the name and the descriptor of a row
abbrev pub row_key : {T : Type 0} → Row T → List ℕ × List ℕ
row_key row = (row.name, row.desc)

abbrev pub row_cmp : {T : Type 0} → Row T → Row T → Ordering
row_cmp x y = member_order (row_key x) (row_key y)

pub row_cmp_total : {T : Type 0} → IsTotalOrder (row_cmp {T = T})
row_cmp_total {T} = on_total (row_key {T = T}) member_order_total

abbrev pub value_of : {T : Type 0} → Row T → T
value_of row = row.value

abbrev pub field_row : FieldShape → Row FieldShape
field_row field = record { name = field.name; desc = desc_text field.desc; value = field }

abbrev pub method_row : SketchedMethod → Row SketchedMethod
method_row method = record { name = method.shape.name; desc = method_text method.shape.desc; value = method }

-- what a method stands in order by
abbrev pub sketched_key : SketchedMethod → List ℕ × List ℕ
sketched_key method = method_key method.shape

-- values of one key are one value
abbrev pub AreApart : {X K : Type 0} → (X → K) → List X → Type 0
AreApart {X} key xs = (x y : X) → Contains xs x → Contains xs y → key x ≡ key y → x ≡ y

-- a value of this key is there
abbrev pub HasKey : {X K : Type 0} → (X → K) → List X → K → Type 0
HasKey {X} key xs k = (x : X) × Contains xs x × (key x ≡ k)
