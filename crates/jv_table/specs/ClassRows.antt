-- The rows of the class file tables, as the JVM specification states them.
use Rattle.std.specs.Prelude.{ℕ, true, false, map, List, [], ◌∷◌, ◌++◌}
use Rattle.std.specs.List.{range_with_len}
use Rattle.jv_table.specs.declared.class_tables.TagRow.{TagRow}
use Rattle.jv_table.specs.declared.class_tables.TypeRow.{TypeRow}
use Rattle.jv_table.specs.declared.class_tables.FrameRow.{FrameRow}
use Rattle.jv_table.specs.declared.class_tables.FrameGroup.{FrameGroup}
use Rattle.jv_table.specs.declared.class_tables.FrameGroup.TheVariants.{Same, SameOne, SameOneExtended, Chop, SameExtended, Append, Full}

-- what a row of the pool's tags says: the widths of an item's numbers, and how many indices it takes
pub record TagForm : Type 0 where
  pub tag : ℕ
  pub parts : List ℕ
  pub slots : ℕ

-- a row of the pool's tags, apart from where its widths lie in memory
abbrev pub tag_form : TagRow → TagForm
tag_form row = record { tag = row.tag; parts = row.parts.now; slots = row.slots }

-- the same for a row with its key
abbrev pub tag_row_form : ℕ × TagRow → ℕ × TagForm
tag_row_form row = (row.0, tag_form row.1)

-- a row with its key
abbrev pub tag : ℕ → List ℕ → ℕ → ℕ × TagForm
tag number parts slots = (number, record { tag = number; parts = parts; slots = slots })

-- the pool's tags (JVMS 4.4, table 4.4-A, and 4.4.1 to 4.4.10)
abbrev pub pool_tag_rows : List (ℕ × TagForm)
pool_tag_rows =
    -- Utf8, of which this is the length
    tag 1 (2 ∷ []) 1
    -- Integer, Float
    ∷ tag 3 (4 ∷ []) 1 ∷ tag 4 (4 ∷ []) 1
    -- Long, Double
    ∷ tag 5 (4 ∷ 4 ∷ []) 2 ∷ tag 6 (4 ∷ 4 ∷ []) 2
    -- Class, String
    ∷ tag 7 (2 ∷ []) 1 ∷ tag 8 (2 ∷ []) 1
    -- Fieldref, Methodref, InterfaceMethodref
    ∷ tag 9 (2 ∷ 2 ∷ []) 1 ∷ tag 10 (2 ∷ 2 ∷ []) 1 ∷ tag 11 (2 ∷ 2 ∷ []) 1
    -- NameAndType
    ∷ tag 12 (2 ∷ 2 ∷ []) 1
    -- MethodHandle, MethodType, InvokeDynamic
    ∷ tag 15 (1 ∷ 2 ∷ []) 1 ∷ tag 16 (2 ∷ []) 1 ∷ tag 18 (2 ∷ 2 ∷ []) 1 ∷ []

-- a row with its key
abbrev pub frame : FrameGroup → ℕ → ℕ × FrameRow
frame group kind = (kind, record { kind = kind; group = group })

-- the kinds of a stack map's frames (JVMS 4.7.4). Kinds 128 to 246 are reserved and have no row.
abbrev pub frame_kind_rows : List (ℕ × FrameRow)
frame_kind_rows =
    map (frame Same) (range_with_len 0 64) ++ map (frame SameOne) (range_with_len 64 64) ++ map (frame SameOneExtended) (range_with_len 247 1) ++ map (frame Chop) (range_with_len 248 3) ++ map (frame SameExtended) (range_with_len 251 1) ++ map (frame Append) (range_with_len 252 3) ++ map (frame Full) (range_with_len 255 1)

-- the tags of verification types (JVMS 4.7.4). Object and Uninitialized have a number of two bytes.
abbrev pub type_tag_rows : List (ℕ × TypeRow)
type_tag_rows =
    map (λ tag. (tag, record { tag = tag; arg = false })) (range_with_len 0 7) ++ map (λ tag. (tag, record { tag = tag; arg = true })) (range_with_len 7 2)
