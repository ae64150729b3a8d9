-- What the rows of the tables of opcodes and of newarray tell of their keys.
use Rattle.std.proofs.Common.{◌≡◌, ℕ, Bool, true, false, not, ◌||◌, ◌&&◌, cond, eqb, List, [], ◌∷◌, Option, Some, None, refl, sym, ap, ◌∙◌}
use Rattle.std.specs.Prelude.{is_none}
use Rattle.jv_table.specs.declared.code_tables.Cell.{Cell}
use Rattle.std.proofs.lemmas.Bool.{and_parts, eqb-true}
use Rattle.std.proofs.lemmas.Map.Lookups.{exact_unsigned}
use Rattle.std.specs.List.{list_all}
use Rattle.std.specs.Ordering.{nat_cmp, is_eq}
use Rattle.jv_lists.proofs.Tests.{is_eq-Equal, where_true}
use Rattle.jv_table.specs.Rows.{row_of}
use Rattle.jv_table.specs.CodeRows.{OpForm, opcode_rows, newarray_rows}
use Rattle.jv_table.specs.declared.code_tables.Form.{Form}
use Rattle.jv_table.specs.declared.code_tables.Form.TheVariants as forms
use Rattle.jv_types.specs.declared.desc.PrimType.{PrimType}
use Rattle.jv_types.specs.declared.desc.PrimType.TheVariants.{Boolean, Char, Float, Double, Byte, Short, Int, Long}
use Rattle.jv_desc.specs.Texts.{prim_letter}
use Rattle.jv_read.proofs.Fronts.{some_is}
use Rattle.jv_types.specs.declared.instruction.Arg.{Arg}
use Rattle.jv_insn.specs.Effects.{Shuffle, op_row, row_takes, row_gives, cells_taken, cells_given, decides_cells, shuffle_of}
use Rattle.jv_insn.specs.Forms.{HasOperands}
use Rattle.jv_insn.specs.Encoding.{atype_of}

-- a test that each row passes is passed by the row of a key
pub row_passes : {R : Type 0} (test : ℕ × R → Bool) (rows : List (ℕ × R)) (key : ℕ) (row : R) → list_all test rows ≡ true → row_of nat_cmp key rows ≡ Some row → test (key, row) ≡ true
row_passes {R} test [] key row all e = absurd cc
row_passes {R} test (first ∷ rows) key row all e =
    let parts = and_parts (test first) (list_all test rows) all in
    by (is_eq (nat_cmp key first.0)) refl (row_passes test rows key row parts.1) parts.0 e
  where
    by : (b : Bool) → is_eq (nat_cmp key first.0) ≡ b → (row_of nat_cmp key rows ≡ Some row → test (key, row) ≡ true) → test first ≡ true → cond b (Some first.1) (row_of nat_cmp key rows) ≡ Some row → test (key, row) ≡ true
    by true same more passes e =
        let k : key ≡ first.0 = exact_unsigned key first.0 (is_eq-Equal (nat_cmp key first.0) same) in
        let r : first.1 ≡ row = some_is first.1 row e in
        ap (λ (n : ℕ). test (n, row)) k ∙ ap (λ (x : R). test (first.0, x)) (sym r) ∙ passes
    by false same more passes e = more e

-- ---- ldc

abbrev is_load1 : Form → Bool
is_load1 forms.Load1 = true
is_load1 _ = false

abbrev is_ldc : ℕ × OpForm → Bool
is_ldc row = not (is_load1 row.1.form) || eqb row.0 18

each_is_ldc : list_all is_ldc opcode_rows ≡ true
unfolding opcode_rows
each_is_ldc = refl

-- the one form whose index has one byte is that of ldc
pub ldc_alone : (op : ℕ) (row : OpForm) → op_row op ≡ Some row → row.form ≡ forms.Load1 → eqb op 18 ≡ true
ldc_alone op row e is =
    let passes = row_passes is_ldc opcode_rows op row each_is_ldc e in
    let load : is_load1 row.form ≡ true = ap is_load1 is in
    by (is_load1 row.form) load passes
  where
    by : (b : Bool) → b ≡ true → (not b || eqb op 18) ≡ true → eqb op 18 ≡ true
    by true t h = h
    by false t h = absurd cc

-- ---- new and anewarray

abbrev is_class_form : Form → Bool
is_class_form forms.Class = true
is_class_form _ = false

abbrev names_class : ℕ × OpForm → Bool
names_class row = not (eqb row.0 187 || eqb row.0 189) || is_class_form row.1.form

each_names_class : list_all names_class opcode_rows ≡ true
unfolding opcode_rows
each_names_class = refl

-- a new and an anewarray name a class
pub class_form : (op : ℕ) (row : OpForm) → op_row op ≡ Some row → (eqb op 187 || eqb op 189) ≡ true → row.form ≡ forms.Class
class_form op row e is = let passes = row_passes names_class opcode_rows op row each_names_class e in by (eqb op 187 || eqb op 189) row.form is passes
  where
    by : (b : Bool) (form : Form) → b ≡ true → (not b || is_class_form form) ≡ true → form ≡ forms.Class
    by true forms.Class t h = refl
    by true _ t h = absurd cc
    by false form t h = absurd cc

-- ---- newarray

abbrev has_code : PrimType → ℕ × ℕ → Bool
has_code prim row = not (eqb row.1 (prim_letter prim)) || eqb row.0 (atype_of prim)

each_has_code : (prim : PrimType) → list_all (has_code prim) newarray_rows ≡ true
each_has_code Boolean = refl
each_has_code Char = refl
each_has_code Float = refl
each_has_code Double = refl
each_has_code Byte = refl
each_has_code Short = refl
each_has_code Int = refl
each_has_code Long = refl

letter_itself : (prim : PrimType) → eqb (prim_letter prim) (prim_letter prim) ≡ true
letter_itself Boolean = refl
letter_itself Char = refl
letter_itself Float = refl
letter_itself Double = refl
letter_itself Byte = refl
letter_itself Short = refl
letter_itself Int = refl
letter_itself Long = refl

-- a primitive type has one code
pub one_code : (code : ℕ) (prim : PrimType) → row_of nat_cmp code newarray_rows ≡ Some (prim_letter prim) → code ≡ atype_of prim
one_code code prim e =
    let passes = row_passes (has_code prim) newarray_rows code (prim_letter prim) (each_has_code prim) e in
    eqb-true code (atype_of prim) (by (eqb (prim_letter prim) (prim_letter prim)) (letter_itself prim) passes)
  where
    by : (b : Bool) → b ≡ true → (not b || eqb code (atype_of prim)) ≡ true → eqb code (atype_of prim) ≡ true
    by true t h = h
    by false t h = absurd cc

-- ---- cells

-- where operands don't decide the cells, those of an instruction are those of its row
taken_by : (form : Form) (op : ℕ) (arg : Arg) (row : OpForm) → op_row op ≡ Some row → HasOperands form arg → decides_cells form ≡ false → cells_taken op arg ≡ row.takes
taken_by forms.Nothing op arg row e h d = ap (cells_taken op) h ∙ ap row_takes e
taken_by forms.Local op arg row e h d = ap (cells_taken op) h.1 ∙ ap row_takes e
taken_by forms.Small1 op arg row e h d = ap (cells_taken op) h.1 ∙ ap row_takes e
taken_by forms.Small2 op arg row e h d = ap (cells_taken op) h.1 ∙ ap row_takes e
taken_by forms.Inc op arg row e h d = ap (cells_taken op) h.2 ∙ ap row_takes e
taken_by forms.Class op arg row e h d = ap (cells_taken op) h.1 ∙ ap row_takes e
taken_by forms.Dynamic op arg row e h d = ap (cells_taken op) h ∙ ap row_takes e
taken_by forms.NewPrim op arg row e h d = ap (cells_taken op) h.1 ∙ ap row_takes e
taken_by forms.Jump2 op arg row e h d = ap (cells_taken op) h.1 ∙ ap row_takes e
taken_by forms.Jump4 op arg row e h d = ap (cells_taken op) h.1 ∙ ap row_takes e
taken_by forms.TableSwitch op arg row e h d = ap (cells_taken op) h.3 ∙ ap row_takes e
taken_by forms.LookupSwitch op arg row e h d = ap (cells_taken op) h.2 ∙ ap row_takes e
taken_by forms.Wide op arg row e h d = absurd h
taken_by _ op arg row e h d = absurd cc

pub row_cells_taken : (op : ℕ) (arg : Arg) (row : OpForm) → op_row op ≡ Some row → HasOperands row.form arg → decides_cells row.form ≡ false → cells_taken op arg ≡ row.takes
row_cells_taken op arg row e h d = taken_by row.form op arg row e h d

given_by : (form : Form) (op : ℕ) (arg : Arg) (row : OpForm) → op_row op ≡ Some row → HasOperands form arg → decides_cells form ≡ false → cells_given op arg ≡ row.gives
given_by forms.Nothing op arg row e h d = ap (cells_given op) h ∙ ap row_gives e
given_by forms.Local op arg row e h d = ap (cells_given op) h.1 ∙ ap row_gives e
given_by forms.Small1 op arg row e h d = ap (cells_given op) h.1 ∙ ap row_gives e
given_by forms.Small2 op arg row e h d = ap (cells_given op) h.1 ∙ ap row_gives e
given_by forms.Inc op arg row e h d = ap (cells_given op) h.2 ∙ ap row_gives e
given_by forms.Class op arg row e h d = ap (cells_given op) h.1 ∙ ap row_gives e
given_by forms.Dynamic op arg row e h d = ap (cells_given op) h ∙ ap row_gives e
given_by forms.NewPrim op arg row e h d = ap (cells_given op) h.1 ∙ ap row_gives e
given_by forms.Jump2 op arg row e h d = ap (cells_given op) h.1 ∙ ap row_gives e
given_by forms.Jump4 op arg row e h d = ap (cells_given op) h.1 ∙ ap row_gives e
given_by forms.TableSwitch op arg row e h d = ap (cells_given op) h.3 ∙ ap row_gives e
given_by forms.LookupSwitch op arg row e h d = ap (cells_given op) h.2 ∙ ap row_gives e
given_by forms.Wide op arg row e h d = absurd h
given_by _ op arg row e h d = absurd cc

pub row_cells_given : (op : ℕ) (arg : Arg) (row : OpForm) → op_row op ≡ Some row → HasOperands row.form arg → decides_cells row.form ≡ false → cells_given op arg ≡ row.gives
row_cells_given op arg row e h d = given_by row.form op arg row e h d

abbrev are_none : List Cell → Bool
are_none [] = true
are_none (cell ∷ cells) = false

none_are : (cells : List Cell) → are_none cells ≡ true → cells ≡ []
none_are [] e = refl
none_are (cell ∷ cells) e = absurd cc

abbrev has_no_cells : OpForm → Bool
has_no_cells row = are_none row.takes && are_none row.gives

no_cells_are : (row : OpForm) → has_no_cells row ≡ true → (row.takes ≡ []) × (row.gives ≡ [])
no_cells_are row e = let p = and_parts (are_none row.takes) (are_none row.gives) e in (none_are row.takes p.0, none_are row.gives p.1)

abbrev leaves_to_operands : ℕ × OpForm → Bool
leaves_to_operands row = not (decides_cells row.1.form) || has_no_cells row.1

each_leaves : list_all leaves_to_operands opcode_rows ≡ true
unfolding opcode_rows
each_leaves = refl

pub operands_rows : (op : ℕ) (row : OpForm) → op_row op ≡ Some row → decides_cells row.form ≡ true → (row.takes ≡ []) × (row.gives ≡ [])
operands_rows op row e d =
    no_cells_are row (where_true (decides_cells row.form) (has_no_cells row) d (row_passes leaves_to_operands opcode_rows op row each_leaves e))

abbrev moves_or_has : ℕ × OpForm → Bool
moves_or_has row = is_none (shuffle_of row.0) || has_no_cells row.1

each_moves : list_all moves_or_has opcode_rows ≡ true
unfolding opcode_rows
each_moves = refl

some_moves : (o : Option Shuffle) (shuffle : Shuffle) (b : Bool) → o ≡ Some shuffle → (is_none o || b) ≡ true → b ≡ true
some_moves None shuffle b e h = absurd cc
some_moves (Some s) shuffle b e h = h

pub moves_rows : (op : ℕ) (row : OpForm) (shuffle : Shuffle) → op_row op ≡ Some row → shuffle_of op ≡ Some shuffle → (row.takes ≡ []) × (row.gives ≡ [])
moves_rows op row shuffle e s =
    no_cells_are row (some_moves (shuffle_of op) shuffle (has_no_cells row) s (row_passes moves_or_has opcode_rows op row each_moves e))
