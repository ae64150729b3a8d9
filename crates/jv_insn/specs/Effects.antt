-- What an instruction takes and gives (JVMS 6.5): cells of the operand stack, local variables, words that
-- are moved whatever they hold, and where it goes on.
use Rattle.std.specs.Prelude.{ℕ, ◌-◌, ◌%◌, Bool, true, false, ◌&&◌, ◌||◌, not, ◌==◌, nat_le, if◌then◌else◌, List, [], ◌∷◌, ◌++◌, Option, None, Some, map, replicate, sum_by}
use Rattle.std.specs.Ordering.{nat_cmp}
use Rattle.jv_table.specs.Rows.{row_of}
use Rattle.jv_table.specs.CodeRows.{OpForm, opcode_rows}
use Rattle.jv_table.specs.declared.code_tables.Cell.{Cell}
use Rattle.jv_table.specs.declared.code_tables.Cell.TheVariants.{Int, Float, Long, Double, Ref, Null}
use Rattle.jv_table.specs.declared.code_tables.Form.{Form}
use Rattle.jv_table.specs.declared.code_tables.Form.TheVariants as forms
use Rattle.jv_table.specs.declared.ops.TheConstants.{ILOAD, ILOAD_0, ALOAD_3, ISTORE, ISTORE_0, ASTORE_3, POP, POP2, DUP, DUP_X1, DUP_X2, DUP2, DUP2_X1, DUP2_X2, SWAP, IINC, GOTO, TABLESWITCH, LOOKUPSWITCH, IRETURN, RETURN, PUTSTATIC, GETFIELD, PUTFIELD, INVOKESTATIC, ATHROW, GOTO_W}
use Rattle.jv_types.specs.declared.desc.PrimType.TheVariants as prims
use Rattle.jv_types.specs.declared.desc.Desc.{Desc}
use Rattle.jv_types.specs.declared.desc.Desc.TheVariants as descs
use Rattle.jv_types.specs.declared.instruction.Const.{Const}
use Rattle.jv_types.specs.declared.instruction.Const.TheVariants as consts
use Rattle.jv_types.specs.declared.instruction.Arg.{Arg}
use Rattle.jv_types.specs.declared.instruction.Arg.TheVariants.{Local, Inc, Constant, Field, Method, Multi}
use Rattle.jv_types.specs.declared.instruction.Insn.{Insn}
use Rattle.jv_types.specs.Bodies.{arg_targets}

-- ---- cells of types and constants

-- how many words a cell takes: a value of category 2, a long or double, takes two (JVMS 2.11.1)
abbrev pub cell_width : Cell → ℕ
cell_width Int = 1
cell_width Float = 1
cell_width Long = 2
cell_width Double = 2
cell_width Ref = 1
cell_width Null = 1

abbrev pub width_of : List Cell → ℕ
width_of cells = sum_by cell_width cells

-- the cell of a value of a type
abbrev pub desc_cell : Desc → Cell
desc_cell (descs.Prim prims.Float) = Float
desc_cell (descs.Prim prims.Double) = Double
desc_cell (descs.Prim prims.Long) = Long
desc_cell (descs.Prim _) = Int
desc_cell (descs.Ref _) = Ref

-- the cells of a method's result: none of void
abbrev pub result_cells : Option Desc → List Cell
result_cells None = []
result_cells (Some desc) = desc_cell desc ∷ []

-- the cell of a constant that is loaded
abbrev pub const_cell : Const → Cell
const_cell (consts.Int _) = Int
const_cell (consts.Float _) = Float
const_cell (consts.Long _) = Long
const_cell (consts.Double _) = Double
const_cell _ = Ref

-- ---- the operand stack

-- the row of an opcode; those from 202 on have none
abbrev pub op_row : ℕ → Option OpForm
op_row op = row_of nat_cmp op opcode_rows

-- the cells that the row of an opcode says to be taken
abbrev pub row_takes : Option OpForm → List Cell
row_takes None = []
row_takes (Some row) = row.takes

-- the cells that the row of an opcode says to be given
abbrev pub row_gives : Option OpForm → List Cell
row_gives None = []
row_gives (Some row) = row.gives

-- the instruction is told the object whose field it reads or writes: getfield or putfield
abbrev pub has_object : ℕ → Bool
has_object op = op == GETFIELD || op == PUTFIELD

-- the instruction writes a field: putstatic or putfield
abbrev pub puts_field : ℕ → Bool
puts_field op = op == PUTSTATIC || op == PUTFIELD

-- the cells that an instruction takes from the stack, the last one from its top
abbrev pub cells_taken : ℕ → Arg → List Cell
cells_taken op (Constant _) = []
cells_taken op (Field field) = (if has_object op then Ref ∷ [] else []) ++ (if puts_field op then desc_cell field.desc ∷ [] else [])
cells_taken op (Method method) = (if op == INVOKESTATIC then [] else Ref ∷ []) ++ map desc_cell method.desc.params
cells_taken op (Multi _ dims) = replicate dims Int
cells_taken op _ = row_takes (op_row op)

-- the cells that it gives to the stack, the last one on top
abbrev pub cells_given : ℕ → Arg → List Cell
cells_given op (Constant constant) = const_cell constant ∷ []
cells_given op (Field field) = if puts_field op then [] else desc_cell field.desc ∷ []
cells_given op (Method method) = result_cells method.desc.result
cells_given op (Multi _ _) = Ref ∷ []
cells_given op _ = row_gives (op_row op)

-- how many words from the top an instruction moves whatever they hold, and those that stand there
-- afterwards, each by its place among them from the lowest on
pub record Shuffle : Type 0 where
  pub count : ℕ
  pub order : List ℕ

-- the instructions that move words, by their opcodes
abbrev pub shuffles : List (ℕ × Shuffle)
shuffles =
    (POP, record { count = 1; order = [] })
    ∷ (POP2, record { count = 2; order = [] })
    ∷ (DUP, record { count = 1; order = 0 ∷ 0 ∷ [] })
    ∷ (DUP_X1, record { count = 2; order = 1 ∷ 0 ∷ 1 ∷ [] })
    ∷ (DUP_X2, record { count = 3; order = 2 ∷ 0 ∷ 1 ∷ 2 ∷ [] })
    ∷ (DUP2, record { count = 2; order = 0 ∷ 1 ∷ 0 ∷ 1 ∷ [] })
    ∷ (DUP2_X1, record { count = 3; order = 1 ∷ 2 ∷ 0 ∷ 1 ∷ 2 ∷ [] })
    ∷ (DUP2_X2, record { count = 4; order = 2 ∷ 3 ∷ 0 ∷ 1 ∷ 2 ∷ 3 ∷ [] })
    ∷ (SWAP, record { count = 2; order = 1 ∷ 0 ∷ [] }) ∷ []

-- the words that an instruction moves; the others move none
abbrev pub shuffle_of : ℕ → Option Shuffle
shuffle_of op = row_of nat_cmp op shuffles

-- ---- local variables

-- a load of a local variable: iload to aload, and those of the locals 0 to 3
abbrev pub is_load : ℕ → Bool
is_load op = nat_le ILOAD op && nat_le op ALOAD_3

-- a store to a local variable: istore to astore, and those of the locals 0 to 3
abbrev pub is_store : ℕ → Bool
is_store op = nat_le ISTORE op && nat_le op ASTORE_3

-- the local variable that an instruction names, by its operand or by its opcode alone
abbrev pub local_of : ℕ → Arg → ℕ
local_of op (Local local) = local
local_of op (Inc local by) = local
local_of op _ = if nat_le op ALOAD_3 then (op - ILOAD_0) % 4 else (op - ISTORE_0) % 4

-- the local variables that an instruction reads, each with the cell that it holds
abbrev pub locals_read : ℕ → Arg → List (ℕ × Cell)
locals_read op arg =
    if is_load op then map (λ (cell : Cell). (local_of op arg, cell)) (cells_given op arg) else if op == IINC then (local_of op arg, Int) ∷ [] else []

-- the local variables that it writes, each with the cell that it is given
abbrev pub locals_written : ℕ → Arg → List (ℕ × Cell)
locals_written op arg =
    if is_store op then map (λ (cell : Cell). (local_of op arg, cell)) (cells_taken op arg) else if op == IINC then (local_of op arg, Int) ∷ [] else []

-- ---- where an instruction goes on

-- a return: ireturn to areturn, and return
abbrev pub is_return : ℕ → Bool
is_return op = nat_le IRETURN op && nat_le op RETURN

-- an instruction that never goes on to the next one: goto, goto_w, a switch, a return, athrow
abbrev pub is_end : ℕ → Bool
is_end op = (op == GOTO || op == GOTO_W) || ((op == TABLESWITCH || op == LOOKUPSWITCH) || (is_return op || op == ATHROW))

-- ---- all of it

-- what an instruction takes and gives
pub record Effect : Type 0 where
  pub takes : List Cell
  pub gives : List Cell
  pub shuffle : Option Shuffle
  pub reads : List (ℕ × Cell)
  pub writes : List (ℕ × Cell)
  -- whether it goes on to the next instruction, and the other places where it goes
  pub falls : Bool
  pub targets : List ℕ

-- the effect of an instruction
abbrev pub effect_of : Insn → Effect
effect_of insn = record {
  takes = cells_taken insn.op insn.arg;
  gives = cells_given insn.op insn.arg;
  shuffle = shuffle_of insn.op;
  reads = locals_read insn.op insn.arg;
  writes = locals_written insn.op insn.arg;
  falls = not (is_end insn.op);
  targets = arg_targets insn.arg;
}

-- the operands decide the cells that an instruction of this layout takes and gives, and not the opcode alone
abbrev pub decides_cells : Form → Bool
decides_cells forms.Load1 = true
decides_cells forms.Load2 = true
decides_cells forms.LoadTwo = true
decides_cells forms.Field = true
decides_cells forms.Method = true
decides_cells forms.InterfaceMethod = true
decides_cells forms.Multi = true
decides_cells _ = false
