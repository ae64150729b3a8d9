-- How an instruction is written (JVMS 6.5): its opcode, after the opcode of wide where it is under wide,
-- and its operands.
use Rattle.std.specs.Prelude.{◌≡◌, ◌<◌, ◌^◌, ◌+◌, ◌-◌, ◌%◌, ℕ, ℤ, Bool, true, false, IsTrue, if◌then◌else◌, ◌==◌, ◌&&◌, nat_lt, is_some, int_le, int_lt, List, [], ◌∷◌, ◌++◌, length, Option, Some, None, option_and_then, ◌-ℤ◌, FitsSigned}
use Rattle.std.proofs.Math.IntN.{nat_abs}
use Rattle.std.specs.Int.{w8, w16, w32, cast_signed, cast_unsigned}
use Rattle.std.specs.List.{flat_map, AllByRecursion}
use Rattle.std.specs.Ordering.{nat_cmp}
use Rattle.jv_bytes.specs.Numbers.{number_text}
use Rattle.jv_table.specs.Rows.{row_of}
use Rattle.jv_table.specs.CodeRows.{OpForm, newarray_rows}
use Rattle.jv_table.specs.declared.code_tables.Form.{Form}
use Rattle.jv_table.specs.declared.ops.TheConstants.{RET, WIDE}
use Rattle.jv_table.specs.declared.code_tables.Form.TheVariants as forms
use Rattle.jv_insn.specs.declared.written.Operands.{Operands}
use Rattle.jv_insn.specs.declared.written.Operands.TheVariants.{Nothing, Local, Small, Inc, Index, Called, Site, NewPrim, Multi, Jump, Table, Lookup}
use Rattle.jv_insn.specs.declared.written.Written.{Written}
use Rattle.jv_insn.specs.Effects.{op_row}

-- ---- the layout of operands

-- numbers of so many bytes, of which the operands are made; or those of a switch
pub data Layout : Type 0 where
  Alone : Layout
  One : ℕ → (ℕ → Operands) → Layout
  Two : ℕ → ℕ → (ℕ → ℕ → Operands) → Layout
  Three : ℕ → ℕ → ℕ → (ℕ → ℕ → ℕ → Operands) → Layout
  TableSwitch : Layout
  LookupSwitch : Layout

-- numbers of one, two and four bytes that are read as signed ones
abbrev pub s1 : ℕ → ℤ
s1 number = cast_signed w8 number

abbrev pub s2 : ℕ → ℤ
s2 number = cast_signed w16 number

abbrev pub s4 : ℕ → ℤ
s4 number = cast_signed w32 number

-- the layout of a form of the table of opcodes. That of wide is its own.
abbrev pub layout_of : Form → Option Layout
layout_of forms.Nothing = Some Alone
layout_of forms.Local = Some (One 1 Local)
layout_of forms.Small1 = Some (One 1 (λ number. Small (s1 number)))
layout_of forms.Small2 = Some (One 2 (λ number. Small (s2 number)))
layout_of forms.Inc = Some (Two 1 1 (λ local by. Inc local (s1 by)))
layout_of forms.Load1 = Some (One 1 Index)
layout_of forms.Load2 = Some (One 2 Index)
layout_of forms.LoadTwo = Some (One 2 Index)
layout_of forms.Class = Some (One 2 Index)
layout_of forms.Field = Some (One 2 Index)
layout_of forms.Method = Some (One 2 Index)
layout_of forms.InterfaceMethod = Some (Three 2 1 1 Called)
layout_of forms.Dynamic = Some (Three 2 1 1 Site)
layout_of forms.NewPrim = Some (One 1 NewPrim)
layout_of forms.Multi = Some (Two 2 1 Multi)
layout_of forms.Jump2 = Some (One 2 (λ offset. Jump (s2 offset)))
layout_of forms.Jump4 = Some (One 4 (λ offset. Jump (s4 offset)))
layout_of forms.TableSwitch = Some TableSwitch
layout_of forms.LookupSwitch = Some LookupSwitch
layout_of forms.Wide = None

-- the same under wide: loads, stores and iinc, but not ret
abbrev pub wide_layout_of : ℕ → Form → Option Layout
wide_layout_of op forms.Local = if op == RET then None else Some (One 2 Local)
wide_layout_of op forms.Inc = Some (Two 2 2 (λ local by. Inc local (s2 by)))
wide_layout_of op _ = None

-- the layout of an opcode, under wide or not
abbrev pub layout_for : Bool → ℕ → Option Layout
layout_for false op = option_and_then (λ (row : OpForm). layout_of row.form) (op_row op)
layout_for true op = option_and_then (λ (row : OpForm). wide_layout_of op row.form) (op_row op)

-- ---- the text of operands

-- the bytes of a switch before its numbers: they begin at the next multiple of four from the code's start
abbrev pub padding_at : ℕ → ℕ
padding_at at = (4 - at % 4) % 4

-- how many values there are from the low one to the high one
abbrev pub span : ℤ → ℤ → ℕ
span low high = nat_abs (high -ℤ low) + 1

-- a signed number of four bytes
abbrev pub s4_text : ℤ → List ℕ
s4_text number = number_text 4 (cast_unsigned w32 number)

-- a value of a lookupswitch and its offset
abbrev pub pair_text : ℤ × ℤ → List ℕ
pair_text pair = s4_text pair.0 ++ s4_text pair.1

abbrev pub IsPair : ℤ × ℤ → Type 0
IsPair pair = FitsSigned w32 pair.0 × FitsSigned w32 pair.1

-- the bytes are one number of a width, two or three, and the operands are made of them
pub record IsOne (n : ℕ) (make : ℕ → Operands) (text : List ℕ) (operands : Operands) : Type 0 where
  pub number : ℕ
  pub fits : number < 256 ^ n
  pub spelled : text ≡ number_text n number
  pub made : operands ≡ make number

pub record AreTwo (m n : ℕ) (make : ℕ → ℕ → Operands) (text : List ℕ) (operands : Operands) : Type 0 where
  pub first : ℕ
  pub second : ℕ
  pub first_fits : first < 256 ^ m
  pub second_fits : second < 256 ^ n
  pub spelled : text ≡ number_text m first ++ number_text n second
  pub made : operands ≡ make first second

pub record AreThree (m n k : ℕ) (make : ℕ → ℕ → ℕ → Operands) (text : List ℕ) (operands : Operands) : Type 0 where
  pub first : ℕ
  pub second : ℕ
  pub third : ℕ
  pub first_fits : first < 256 ^ m
  pub second_fits : second < 256 ^ n
  pub third_fits : third < 256 ^ k
  pub spelled : text ≡ number_text m first ++ (number_text n second ++ number_text k third)
  pub made : operands ≡ make first second third

-- the bytes from an offset on are the operands of a tableswitch: padding, the default, the low and the high
-- value, and an offset for each value from the low to the high one
pub record IsTable (at : ℕ) (text : List ℕ) (operands : Operands) : Type 0 where
  pub padding : List ℕ
  pub default : ℤ
  pub low : ℤ
  pub high : ℤ
  pub offsets : List ℤ
  pub aligned : length padding ≡ padding_at at
  pub default_fits : FitsSigned w32 default
  pub low_fits : FitsSigned w32 low
  pub high_fits : FitsSigned w32 high
  pub each_fits : AllByRecursion (FitsSigned w32) offsets
  pub in_order : IsTrue (int_le low high)
  pub count : length offsets ≡ span low high
  pub spelled : text ≡ padding ++ (s4_text default ++ (s4_text low ++ (s4_text high ++ flat_map s4_text offsets)))
  pub made : operands ≡ Table default low offsets

-- they are the operands of a lookupswitch: padding, the default, how many cases there are, and each case
pub record IsLookup (at : ℕ) (text : List ℕ) (operands : Operands) : Type 0 where
  pub padding : List ℕ
  pub default : ℤ
  pub cases : List (ℤ × ℤ)
  pub aligned : length padding ≡ padding_at at
  pub default_fits : FitsSigned w32 default
  pub each_fits : AllByRecursion IsPair cases
  -- the count is read as a signed number that isn't negative
  pub count : length cases < 2 ^ 31
  pub spelled : text ≡ padding ++ (s4_text default ++ (number_text 4 (length cases) ++ flat_map pair_text cases))
  pub made : operands ≡ Lookup default cases

-- the bytes from an offset of the code on are operands of a layout
abbrev pub AreOperands : Layout → ℕ → List ℕ → Operands → Type 0
AreOperands Alone at text operands = (text ≡ []) × (operands ≡ Nothing)
AreOperands (One n make) at text operands = IsOne n make text operands
AreOperands (Two m n make) at text operands = AreTwo m n make text operands
AreOperands (Three m n k make) at text operands = AreThree m n k make text operands
AreOperands TableSwitch at text operands = IsTable at text operands
AreOperands LookupSwitch at text operands = IsLookup at text operands

-- ---- instructions

-- the values of a lookupswitch rise
abbrev pub rises_above : ℤ → List (ℤ × ℤ) → Bool
rises_above value [] = true
rises_above value (case ∷ cases) = int_lt value case.0 && rises_above case.0 cases

abbrev pub values_rise : List (ℤ × ℤ) → Bool
values_rise [] = true
values_rise (case ∷ cases) = rises_above case.0 cases

-- what operands have to keep beside their layout: a newarray has the code of a primitive type, a
-- multianewarray makes one dimension or more, and the values of a lookupswitch rise
abbrev pub is_allowed : Operands → Bool
is_allowed (NewPrim code) = is_some (row_of nat_cmp code newarray_rows)
is_allowed (Multi index dims) = nat_lt 0 dims
is_allowed (Lookup default cases) = values_rise cases
is_allowed _ = true

-- the opcode of wide
abbrev pub wide_op : ℕ
wide_op = WIDE

-- what stands before the operands
abbrev pub head_text : Bool → ℕ → List ℕ
head_text false op = op ∷ []
head_text true op = wide_op ∷ op ∷ []

-- the bytes from an offset of the code on are this instruction
pub record IsInsnText (pc : ℕ) (text : List ℕ) (written : Written) : Type 0 where
  pub layout : Layout
  pub known : layout_for written.wide written.op ≡ Some layout
  pub operands : List ℕ
  pub spelled : text ≡ head_text written.wide written.op ++ operands
  pub laid : AreOperands layout (pc + 1) operands written.operands
  pub allowed : IsTrue (is_allowed written.operands)

-- the bytes begin with an instruction, and go on with the rest
pub record BeginsWithInsn (pc : ℕ) (bytes : List ℕ) (written : Written) (rest : List ℕ) : Type 0 where
  pub front : List ℕ
  pub is_text : IsInsnText pc front written
  pub parts : bytes ≡ front ++ rest

-- ---- a code

-- no instruction stands in front of the bytes
abbrev pub NoInsn : ℕ → List ℕ → Type 0
NoInsn pc bytes = (written : Written) (rest : List ℕ) → BeginsWithInsn pc bytes written rest → ⊥

-- where instructions end: behind all of the bytes, or at an offset where bytes are left and none stands
pub data Ends : ℕ → List ℕ → Option ℕ → Type 0 where
  AtEnd : {pc : ℕ} → Ends pc [] None
  BreaksOff : {pc : ℕ} {byte : ℕ} {bytes : List ℕ} → NoInsn pc (byte ∷ bytes) → Ends pc (byte ∷ bytes) (Some pc)

-- the bytes from an offset on are these instructions one behind the other, each with its offset, until they
-- end or break off
abbrev pub Lays : ℕ → List ℕ → List (ℕ × Written) → Option ℕ → Type 0
Lays pc bytes [] end = Ends pc bytes end
Lays pc bytes (row ∷ rows) end =
    (rest : List ℕ) × ((row.0 ≡ pc) × BeginsWithInsn pc bytes row.1 rest × Lays (pc + (length bytes - length rest)) rest rows end)
