-- The typing of the instructions that work on words: the frame after one of them, where the one before it
-- lets it run (JVMS 4.10.1.9).
use Rattle.std.specs.Prelude.{◌≡◌, ◌≤◌, ℕ, Bool, true, false, ◌&&◌, not, IsTrue, if◌then◌else◌, List, [], ◌∷◌, ◌++◌, length, map, All, Option, Some, slice_index_or}
use Rattle.std.specs.Ordering.{nat_cmp}
use Rattle.jv_table.specs.Rows.{row_of}
use Rattle.jv_table.specs.CodeRows.{OpForm}
use Rattle.jv_table.specs.declared.code_tables.Kind.TheVariants.{Word}
use Rattle.jv_table.specs.declared.code_tables.Form.{Form}
use Rattle.jv_table.specs.declared.code_tables.Form.TheVariants as forms
use Rattle.jv_types.specs.declared.instruction.Arg.{Arg}
use Rattle.jv_types.specs.declared.instruction.Arg.TheVariants as args
use Rattle.jv_types.specs.declared.instruction.Insn.{Insn}
use Rattle.jv_types.specs.declared.frames.VType.{VType, Top}
use Rattle.jv_types.specs.declared.frames.Frame.{Frame}
use Rattle.jv_insn.specs.Forms.{is_category_2}
use Rattle.jv_insn.specs.Effects.{Shuffle, effect_of, op_row, shuffle_of, is_store, local_of}
use Rattle.jv_insn.specs.Kinds.{HoldsCells, EndsWithCells, is_wide}
use Rattle.jv_insn.specs.KindSafe.{LocalHolds}

-- ---- the instructions

abbrev pub is_empty_form : Form → Bool
is_empty_form forms.Nothing = true
is_empty_form _ = false

abbrev pub is_local_form : Form → Bool
is_local_form forms.Local = true
is_local_form _ = false

abbrev pub is_small_form : Form → Bool
is_small_form forms.Small1 = true
is_small_form forms.Small2 = true
is_small_form _ = false

abbrev pub is_inc_form : Form → Bool
is_inc_form forms.Inc = true
is_inc_form _ = false

abbrev pub is_load_two_form : Form → Bool
is_load_two_form forms.LoadTwo = true
is_load_two_form _ = false

abbrev pub is_jump_form : Form → Bool
is_jump_form forms.Jump2 = true
is_jump_form forms.Jump4 = true
is_jump_form _ = false

abbrev pub is_table_form : Form → Bool
is_table_form forms.TableSwitch = true
is_table_form _ = false

abbrev pub is_lookup_form : Form → Bool
is_lookup_form forms.LookupSwitch = true
is_lookup_form _ = false

-- these are the operands of an instruction of this layout, and name no class and no member (JVMS 6.5)
abbrev pub has_operands : Form → Arg → Bool
has_operands form args.Nothing = is_empty_form form
has_operands form (args.Local _) = is_local_form form
has_operands form (args.Small _) = is_small_form form
has_operands form (args.Inc _ _) = is_inc_form form
has_operands form (args.Constant constant) = is_category_2 constant && is_load_two_form form
has_operands form (args.Jump _) = is_jump_form form
has_operands form (args.Table _ _ _) = is_table_form form
has_operands form (args.Lookup _ _) = is_lookup_form form
has_operands form _ = false

-- an instruction that works on words: the opcode's row says so, and the operands are of its layout
pub record IsWordInsn (insn : Insn) : Type 0 where
  pub row : OpForm
  pub stands : op_row insn.op ≡ Some row
  pub half : row.kind ≡ Word
  pub operands : IsTrue (has_operands row.form insn.arg)

-- ---- local variables

-- Words before those that are overwritten: where the last one is the first half of a long or double, it
-- becomes Top, since its second half is lost (JVMS 4.10.1.7, modifyPreIndexVariable).
abbrev pub halved : List VType → List VType
halved [] = []
halved (type ∷ []) = (if is_wide type then Top else type) ∷ []
halved (type ∷ next ∷ types) = type ∷ halved (next ∷ types)

-- Words were stored into the local variables from one on. There are as many; the one before loses its
-- half of a long or double, and the ones behind stay: where they begin with the second half of one, it is
-- Top already (JVMS 4.10.1.7, modifyLocalVariable).
pub record AreStored (local : ℕ) (words locals after : List VType) : Type 0 where
  pub before : List VType
  pub lost : List VType
  pub behind : List VType
  pub whole : locals ≡ before ++ (lost ++ behind)
  pub place : length before ≡ local
  pub as_many : length lost ≡ length words
  pub left : after ≡ halved before ++ (words ++ behind)

-- the local variables after a store of words, or after an instruction that is none
abbrev pub StoresWhere : Bool → ℕ → List VType → List VType → List VType → Type 0
StoresWhere true local words locals after = AreStored local words locals after
StoresWhere false local words locals after = after ≡ locals

-- the local variables after an instruction that takes these words from the stack: a store puts them where
-- it says, and all others leave the types of the local variables as they are, iinc too
abbrev pub LocalsAfter : Insn → List VType → List VType → List VType → Type 0
LocalsAfter insn taken locals after = StoresWhere (is_store insn.op) (local_of insn.op insn.arg) taken locals after

-- ---- cells

-- An instruction takes its cells from the top of the stack and puts its cells there, reads local variables
-- that hold their cells, and writes some. The stack that it leaves has at most so many words, and the flag,
-- that the receiver isn't initialised, stays (JVMS 4.10.1.4, validTypeTransition).
pub record IsCellTyping (max_stack : ℕ) (frame : Frame) (insn : Insn) (after : Frame) : Type 0 where
  pub takes : EndsWithCells (effect_of insn).takes frame.stack
  pub reads : All (LocalHolds frame) (effect_of insn).reads
  pub given : List VType
  pub gives : HoldsCells (effect_of insn).gives given
  pub stack : after.stack ≡ takes.below ++ given
  pub room : length after.stack ≤ max_stack
  pub locals : LocalsAfter insn takes.top frame.locals after.locals
  pub flag : after.this_uninit ≡ frame.this_uninit

-- an instruction that works on words leads from the one frame to the other
pub record IsWordTyping (max_stack : ℕ) (frame : Frame) (insn : Insn) (after : Frame) : Type 0 where
  pub is_word : IsWordInsn insn
  pub typing : IsCellTyping max_stack frame insn after

-- ---- words that are moved whatever they hold

-- a word of which nothing is known, or the second one of a long or double
abbrev pub is_top : VType → Bool
is_top Top = true
is_top _ = false

-- Words are whole values, where the word before is the first of two or isn't: no half of a long or double
-- stands alone, and no word of which nothing is known (JVMS 4.10.1.4, popCategory1 and popCategory2).
abbrev pub are_whole : Bool → List VType → Bool
are_whole second [] = not second
are_whole second (type ∷ types) = (if second then is_top type else not (is_top type)) && are_whole (is_wide type) types

-- words at these places of others
abbrev pub in_order : List ℕ → List VType → List VType
in_order order words = map (λ (place : ℕ). slice_index_or words place Top) order

-- pop, pop2, dup, dup_x1, dup_x2, dup2, dup2_x1, dup2_x2 and swap: the words that one of them moves are whole
-- values, and so are those that stand there afterwards, so that it splits no long or double
pub record IsMoveTyping (max_stack : ℕ) (frame : Frame) (insn : Insn) (after : Frame) : Type 0 where
  pub shuffle : Shuffle
  pub moves : shuffle_of insn.op ≡ Some shuffle
  pub below : List VType
  pub top : List VType
  pub whole : frame.stack ≡ below ++ top
  pub count : length top ≡ shuffle.count
  pub values : IsTrue (are_whole false top)
  pub values_after : IsTrue (are_whole false (in_order shuffle.order top))
  pub stack : after.stack ≡ below ++ in_order shuffle.order top
  pub room : length after.stack ≤ max_stack
  pub locals : after.locals ≡ frame.locals
  pub flag : after.this_uninit ≡ frame.this_uninit

-- a value of one word, or of two
pub data Size : Type 0 where
  One : Size
  Two : Size

-- the words are values of these sizes
abbrev pub has_sizes : List Size → List VType → Bool
has_sizes [] [] = true
has_sizes [] (type ∷ types) = false
has_sizes (size ∷ sizes) [] = false
has_sizes (One ∷ sizes) (type ∷ types) = (not (is_top type) && not (is_wide type)) && has_sizes sizes types
has_sizes (Two ∷ sizes) (type ∷ []) = false
has_sizes (Two ∷ sizes) (type ∷ next ∷ types) = (is_wide type && is_top next) && has_sizes sizes types

-- the forms of each of these instructions, by its opcode: the sizes of the values that it moves, the topmost
-- last (JVMS 4.10.1.9)
abbrev pub move_forms : List (ℕ × List (List Size))
move_forms =
    (87, (One ∷ []) ∷ [])
    ∷ (88, (One ∷ One ∷ []) ∷ (Two ∷ []) ∷ [])
    ∷ (89, (One ∷ []) ∷ [])
    ∷ (90, (One ∷ One ∷ []) ∷ [])
    ∷ (91, (One ∷ One ∷ One ∷ []) ∷ (Two ∷ One ∷ []) ∷ [])
    ∷ (92, (One ∷ One ∷ []) ∷ (Two ∷ []) ∷ [])
    ∷ (93, (One ∷ One ∷ One ∷ []) ∷ (One ∷ Two ∷ []) ∷ [])
    ∷ (94, (One ∷ One ∷ One ∷ One ∷ []) ∷ (One ∷ One ∷ Two ∷ []) ∷ (Two ∷ One ∷ One ∷ []) ∷ (Two ∷ Two ∷ []) ∷ [])
    ∷ (95, (One ∷ One ∷ []) ∷ []) ∷ []

-- an instruction that moves words has these forms
abbrev pub forms_of : ℕ → Option (List (List Size))
forms_of op = row_of nat_cmp op move_forms
