-- The instructions that a code's bytes are, by functions on lists that give a value or nothing.
use Rattle.std.specs.Prelude.{ℕ, zero, suc, ◌+◌, ◌-◌, List, [], ◌∷◌, length, ◌==◌, Option, Some, None, if◌then◌else◌}
use Rattle.std.specs.List.{slice_get}
use Rattle.calls_form.specs.declared.object_class.Instruction.{Instruction}
use Rattle.calls_form.specs.declared.object_class.Instruction.TheVariants.{PushWord, Load, Store}
use Rattle.calls_form.specs.declared.object_class.Placed.{Placed}
use Rattle.calls_form.specs.declared.opcode.Format.{Format}
use Rattle.calls_form.specs.declared.opcode.Format.TheVariants.{Alone, Byte, Short, LoadAt, StoreAt, Named}
use Rattle.calls_form.specs.declared.target.Target.{Target}
use Rattle.calls_form.specs.Opcodes.{format_of, named}
use Rattle.calls_form.specs.Reading.{◌>>=◌, u1_at, u2_at}

-- the value of a value
abbrev pub flat : {A : Type 0} → Option (Option A) → Option A
flat None = None
flat (Some o) = o

-- what a table has at an index
abbrev pub target_in : List (Option Target) → ℕ → Option Target
target_in table i = flat (slice_get table i)

-- the instruction of an opcode that names what the next index names
unfoldable pub named_at : (ℕ → Option Target) → ℕ → List ℕ → Option (Instruction × List ℕ)
named_at target op bytes = do
  index ← u2_at bytes
  found ← target index.0
  instruction ← named op found
  Some (instruction, index.1)

-- the instruction of an opcode, by what follows it, and what is left
unfoldable pub operands_at : (ℕ → Option Target) → ℕ → Format → List ℕ → Option (Instruction × List ℕ)
operands_at target op (Alone instruction) bytes = Some (instruction, bytes)
operands_at target op Byte bytes = u1_at bytes >>= λ value. Some (PushWord, value.1)
operands_at target op Short bytes = u2_at bytes >>= λ value. Some (PushWord, value.1)
operands_at target op (LoadAt kind) bytes = u1_at bytes >>= λ local. Some (Load kind local.0, local.1)
operands_at target op (StoreAt kind) bytes = u1_at bytes >>= λ local. Some (Store kind local.0, local.1)
operands_at target op Named bytes = named_at target op bytes

-- one instruction, and what is left
unfoldable pub step_at : (ℕ → Option Target) → List ℕ → Option (Instruction × List ℕ)
step_at target bytes = do
  op ← u1_at bytes
  format ← format_of op.0
  operands_at target op.0 format op.1

-- an instruction before those that follow it
abbrev pub before : Placed → Option (List Placed) → Option (List Placed)
before first others = others >>= λ list. Some (first ∷ list)

-- at most so many instructions, which the bytes from pc on are
unfoldable pub placed_at : ℕ → (ℕ → Option Target) → ℕ → List ℕ → Option (List Placed)
placed_at zero target pc bytes = if length bytes == 0 then Some [] else None
placed_at (suc n) target pc bytes = if length bytes == 0 then Some [] else (do
  first ← step_at target bytes
  before (record { pc = pc; instruction = first.0 }) (placed_at n target (pc + (length bytes - length first.1)) first.1))

-- the instructions that the bytes from pc on are
abbrev pub placed_from : (ℕ → Option Target) → ℕ → List ℕ → Option (List Placed)
placed_from target pc bytes = placed_at (length bytes) target pc bytes
