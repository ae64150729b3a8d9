-- The opcodes of the form (JVMS 6.5): what follows each, and what the instruction is.
use Rattle.std.specs.Prelude.{ℕ, ◌-◌, ◌&&◌, ◌||◌, ◌==◌, nat_le, nat_lt, Option, Some, None, if◌then◌else◌}
use Rattle.calls_form.specs.declared.object_class.Kind.TheVariants.{Word, Reference}
use Rattle.calls_form.specs.declared.object_class.Instruction.{Instruction}
use Rattle.calls_form.specs.declared.object_class.Instruction.TheVariants.{Nop, PushNull, PushWord, Load, Store, Pop, Dup, Combine, Negate, GetStatic, PutStatic, GetField, PutField, InvokeVirtual, InvokeSpecial, InvokeObjectInit, InvokeStatic, New, Return}
use Rattle.calls_form.specs.declared.opcode.Format.{Format}
use Rattle.calls_form.specs.declared.opcode.Format.TheVariants.{Alone, Byte, Short, LoadAt, StoreAt, Named}
use Rattle.calls_form.specs.declared.target.Target.{Target}
use Rattle.calls_form.specs.declared.target.Target.TheVariants.{Field, Method, ObjectInit, This}

-- nop, aconst_null, iconst_m1 to iconst_5, bipush and sipush
abbrev pub constant_format : ℕ → Option Format
constant_format op =
    if op == 0 then Some (Alone Nop) else
    (if op == 1 then Some (Alone PushNull) else
    (if nat_le 2 op && nat_le op 8 then Some (Alone PushWord) else
    (if op == 16 then Some Byte else
    (if op == 17 then Some Short else None))))

-- iload, aload, iload_0 to iload_3, aload_0 to aload_3, and the stores alike
abbrev pub local_format : ℕ → Option Format
local_format op =
    if op == 21 then Some (LoadAt Word) else
    (if op == 25 then Some (LoadAt Reference) else
    (if nat_le 26 op && nat_le op 29 then Some (Alone (Load Word (op - 26))) else
    (if nat_le 42 op && nat_le op 45 then Some (Alone (Load Reference (op - 42))) else
    (if op == 54 then Some (StoreAt Word) else
    (if op == 58 then Some (StoreAt Reference) else
    (if nat_le 59 op && nat_le op 62 then Some (Alone (Store Word (op - 59))) else
    (if nat_le 75 op && nat_le op 78 then Some (Alone (Store Reference (op - 75))) else None)))))))

-- pop, dup; iadd, isub, imul, iand, ior, ixor; ineg; ireturn, areturn, return; getstatic to invokestatic, new
abbrev pub operation_format : ℕ → Option Format
operation_format op =
    if op == 87 then Some (Alone Pop) else
    (if op == 89 then Some (Alone Dup) else
    (if op == 96 || (op == 100 || (op == 104 || (op == 126 || (op == 128 || op == 130)))) then Some (Alone Combine) else
    (if op == 116 then Some (Alone Negate) else
    (if op == 172 then Some (Alone (Return (Some Word))) else
    (if op == 176 then Some (Alone (Return (Some Reference))) else
    (if op == 177 then Some (Alone (Return None)) else
    (if (nat_le 178 op && nat_le op 184) || op == 187 then Some Named else None)))))))

-- what follows an opcode, where it is one of the form
abbrev pub format_of : ℕ → Option Format
format_of op = if nat_lt op 21 then constant_format op else (if nat_lt op 87 then local_format op else operation_format op)

-- the instruction of an opcode that names this, where it may
abbrev pub named : ℕ → Target → Option Instruction
named op (Field place) =
    if op == 178 then Some (GetStatic place) else
    (if op == 179 then Some (PutStatic place) else
    (if op == 180 then Some (GetField place) else
    (if op == 181 then Some (PutField place) else None)))
named op (Method place) =
    if op == 182 then Some (InvokeVirtual place) else
    (if op == 183 then Some (InvokeSpecial place) else
    (if op == 184 then Some (InvokeStatic place) else None))
named op ObjectInit = if op == 183 then Some InvokeObjectInit else None
named op This = if op == 187 then Some New else None
