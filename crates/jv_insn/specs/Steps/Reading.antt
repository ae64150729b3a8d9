-- Reading an instruction from the front of a list of bytes, part by part. Readers are proved to give what
-- these functions give; laws of lists join the functions with the texts of Layouts.
use Rattle.std.specs.Prelude.{◌+◌, ℕ, ℤ, Bool, true, false, if◌then◌else◌, ◌==◌, nat_lt, int_le, List, Option, Some, None}
use Rattle.jv_read.specs.Reading.{◌>>=◌, u1_at, number_at, bytes_at, many_at}
use Rattle.jv_insn.specs.declared.written.Operands.{Operands}
use Rattle.jv_insn.specs.declared.written.Operands.TheVariants.{Nothing, Table, Lookup}
use Rattle.jv_insn.specs.declared.written.Written.{Written}
use Rattle.jv_insn.specs.Layouts.{Layout, Alone, One, Two, Three, TableSwitch, LookupSwitch, s4, layout_of, wide_layout_of, padding_at, span, is_allowed, wide_op}
use Rattle.jv_insn.specs.Effects.{op_row}

-- ---- numbers

unfoldable pub one_at : ℕ → (ℕ → Operands) → List ℕ → Option (Operands × List ℕ)
one_at n make bytes = do
  first ← number_at n bytes
  Some (make first.0, first.1)

unfoldable pub two_at : ℕ → ℕ → (ℕ → ℕ → Operands) → List ℕ → Option (Operands × List ℕ)
two_at m n make bytes = do
  first ← number_at m bytes
  second ← number_at n first.1
  Some (make first.0 second.0, second.1)

unfoldable pub three_at : ℕ → ℕ → ℕ → (ℕ → ℕ → ℕ → Operands) → List ℕ → Option (Operands × List ℕ)
three_at m n k make bytes = do
  first ← number_at m bytes
  second ← number_at n first.1
  third ← number_at k second.1
  Some (make first.0 second.0 third.0, third.1)

-- ---- switches

-- a signed number of four bytes
unfoldable pub s4_at : List ℕ → Option (ℤ × List ℕ)
s4_at bytes = do
  number ← number_at 4 bytes
  Some (s4 number.0, number.1)

unfoldable pub pair_at : List ℕ → Option ((ℤ × ℤ) × List ℕ)
pair_at bytes = do
  value ← s4_at bytes
  offset ← s4_at value.1
  Some ((value.0, offset.0), offset.1)

-- how many offsets there are from a low value to a high one
unfoldable pub span_of : ℤ → ℤ → Option ℕ
span_of low high = if int_le low high then Some (span low high) else None

unfoldable pub table_at : ℕ → List ℕ → Option (Operands × List ℕ)
table_at at bytes = do
  padding ← bytes_at (padding_at at) bytes
  default ← s4_at padding.1
  low ← s4_at default.1
  high ← s4_at low.1
  count ← span_of low.0 high.0
  offsets ← many_at s4_at count high.1
  Some (Table default.0 low.0 offsets.0, offsets.1)

-- a count that is read as a signed number and isn't negative
unfoldable pub count_at : List ℕ → Option (ℕ × List ℕ)
count_at bytes = do
  count ← number_at 4 bytes
  if nat_lt count.0 2147483648 then Some count else None

unfoldable pub lookup_at : ℕ → List ℕ → Option (Operands × List ℕ)
lookup_at at bytes = do
  padding ← bytes_at (padding_at at) bytes
  default ← s4_at padding.1
  count ← count_at default.1
  cases ← many_at pair_at count.0 count.1
  Some (Lookup default.0 cases.0, cases.1)

-- ---- an instruction

unfoldable pub operands_at : Layout → ℕ → List ℕ → Option (Operands × List ℕ)
operands_at Alone at bytes = Some (Nothing, bytes)
operands_at (One n make) at bytes = one_at n make bytes
operands_at (Two m n make) at bytes = two_at m n make bytes
operands_at (Three m n k make) at bytes = three_at m n k make bytes
operands_at TableSwitch at bytes = table_at at bytes
operands_at LookupSwitch at bytes = lookup_at at bytes

-- the operands of a layout, where there is one
unfoldable pub laid_at : Option Layout → ℕ → List ℕ → Option (Operands × List ℕ)
laid_at None at bytes = None
laid_at (Some layout) at bytes = operands_at layout at bytes

-- an instruction whose head was read
unfoldable pub insn_of : Bool → ℕ → Option (Operands × List ℕ) → Option (Written × List ℕ)
insn_of wide op read = do
  operands ← read
  if is_allowed operands.0 then Some (record { op = op; wide = wide; operands = operands.0 }, operands.1) else None

unfoldable pub plain_at : ℕ → ℕ → List ℕ → Option (Written × List ℕ)
plain_at pc op bytes = do
  row ← op_row op
  insn_of false op (laid_at (layout_of row.form) (pc + 1) bytes)

-- behind the opcode of wide, where no layout asks for an offset
unfoldable pub wide_at : List ℕ → Option (Written × List ℕ)
wide_at bytes = do
  op ← u1_at bytes
  row ← op_row op.0
  insn_of true op.0 (laid_at (wide_layout_of op.0 row.form) 0 op.1)

unfoldable pub written_at : ℕ → List ℕ → Option (Written × List ℕ)
written_at pc bytes = do
  op ← u1_at bytes
  if op.0 == wide_op then wide_at op.1 else plain_at pc op.0 op.1
