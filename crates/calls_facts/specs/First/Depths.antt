-- How many words stand on the stack before each instruction of a code.
use Rattle.std.specs.Prelude.{◌≡◌, ℕ, zero, suc, ◌+◌, ◌-◌, List, [], ◌∷◌, length, Option, Some, None}
use Rattle.std.specs.List.{slice_get}
use Rattle.calls_form.specs.declared.object_class.Kind.{Kind}
use Rattle.calls_form.specs.declared.object_class.Instruction.{Instruction}
use Rattle.calls_form.specs.declared.object_class.Instruction.TheVariants.{Nop, PushNull, PushWord, Load, Store, Pop, Dup, Combine, Negate, GetStatic, PutStatic, GetField, PutField, InvokeVirtual, InvokeSpecial, InvokeObjectInit, InvokeStatic, New, Return}
use Rattle.calls_form.specs.declared.object_class.Placed.{Placed}
use Rattle.calls_form.specs.declared.object_class.Method.{Method}
use Rattle.calls_form.specs.declared.object_class.ObjectClass.{ObjectClass}
use Rattle.calls_model.specs.First.Machine.{argument_count}
use Rattle.calls_facts.specs.First.Names.{code_at}

abbrev pub kind_count : Option Kind → ℕ
kind_count None = 0
kind_count (Some kind) = 1

-- how many words a call of the method at a place gives
abbrev pub result_count : ObjectClass → ℕ → ℕ
result_count class place = elim (slice_get class.methods place) [ None ↦ 0 | Some m ↦ kind_count m.result ]

-- how many words an instruction takes from the stack (JVMS 6.5)
abbrev pub taken : ObjectClass → Instruction → ℕ
taken class Nop = 0
taken class PushNull = 0
taken class PushWord = 0
taken class (Load kind local) = 0
taken class (Store kind local) = 1
taken class Pop = 1
taken class Dup = 1
taken class Combine = 2
taken class Negate = 1
taken class (GetStatic place) = 0
taken class (PutStatic place) = 1
taken class (GetField place) = 1
taken class (PutField place) = 2
taken class (InvokeVirtual place) = argument_count class place
taken class (InvokeSpecial place) = argument_count class place
taken class InvokeObjectInit = 1
taken class (InvokeStatic place) = argument_count class place
taken class New = 0
taken class (Return result) = kind_count result

-- how many words an instruction gives to the stack
abbrev pub given : ObjectClass → Instruction → ℕ
given class Nop = 0
given class PushNull = 1
given class PushWord = 1
given class (Load kind local) = 1
given class (Store kind local) = 0
given class Pop = 0
given class Dup = 2
given class Combine = 1
given class Negate = 1
given class (GetStatic place) = 1
given class (PutStatic place) = 0
given class (GetField place) = 1
given class (PutField place) = 0
given class (InvokeVirtual place) = result_count class place
given class (InvokeSpecial place) = result_count class place
given class InvokeObjectInit = 0
given class (InvokeStatic place) = result_count class place
given class New = 1
given class (Return result) = 0

-- so many words stand on the stack before the code: how many stand there before its instruction at an index
unfoldable pub depth_from : ObjectClass → ℕ → List Placed → ℕ → ℕ
depth_from class depth code zero = depth
depth_from class depth [] (suc index) = depth
depth_from class depth (p ∷ code) (suc index) = depth_from class (depth - taken class p.instruction + given class p.instruction) code index

-- how many words stand on the stack of the method at a place before the instruction at an index
abbrev pub depth_at : ObjectClass → ℕ → ℕ → ℕ
depth_at class place index = depth_from class 0 (code_at class place) index
