-- The words that calls speak of.
use Rattle.std.specs.Prelude.{◌≡◌, ℕ, ◌+◌, ◌&&◌, nat_le, nat_lt, Bool, List, [], ◌∷◌, ◌++◌, map, Some, Option, None, if◌then◌else◌, ◌==◌}
use Rattle.std.specs.List.{list_any}
use Rattle.jv_table.specs.declared.code_tables.Cell.{Cell}
use Rattle.jv_table.specs.declared.code_tables.Cell.TheVariants.{Ref}
use Rattle.jv_table.specs.declared.ops.TheConstants.{INVOKESTATIC}
use Rattle.jv_types.specs.declared.references.FieldRef.{FieldRef}
use Rattle.jv_types.specs.declared.references.MethodRef.{MethodRef}
use Rattle.jv_insn.specs.Effects.{cell_width, desc_cell, has_object, puts_field, shuffle_of}
use Rattle.jv_insn.specs.Leaving.{Place, AtLocal, AtStack}
use Rattle.jv_leaving.specs.declared.moved.Shuffling.{Shuffling}
use Rattle.jv_leaving.specs.declared.word.Word.{Word}
use Rattle.jv_leaving.specs.declared.word.Word.TheVariants.{Local, Stack}

-- the place of a word in a frame
abbrev pub place_of : Word → Place
place_of (Local word) = AtLocal word
place_of (Stack word) = AtStack word

-- its number among the words of its kind
abbrev pub number_of : Word → ℕ
number_of (Local word) = word
number_of (Stack word) = word

-- the place of a word, where there is one
abbrev pub place_of_some : Option Word → Option Place
place_of_some None = None
place_of_some (Some word) = Some (place_of word)

-- the cells that a read or a write of a field takes, and those that a call takes
abbrev pub field_cells : ℕ → FieldRef → List Cell
field_cells op field = (if has_object op then Ref ∷ [] else []) ++ (if puts_field op then desc_cell field.desc ∷ [] else [])

abbrev pub method_cells : ℕ → MethodRef → List Cell
method_cells op method = (if op == INVOKESTATIC then [] else Ref ∷ []) ++ map desc_cell method.desc.params

-- what an instruction moves
abbrev pub IsShuffleOf : ℕ → Shuffling → Type 0
IsShuffleOf op moved = shuffle_of op ≡ Some (record { count = moved.count; order = moved.order.now })

-- one of the cells, written from a local variable on, has the local variable
abbrev pub spans : ℕ → List Cell → ℕ → Bool
spans first cells local = list_any (λ (cell : Cell). nat_le first local && nat_lt local (first + cell_width cell)) cells
