-- The offset and the depth of an instruction, and that of the next one.
use Rattle.std.proofs.Common.{◌≡◌, ℕ, zero, suc, ◌+◌, ◌-◌, ◌⊎◌, List, [], ◌∷◌, length, Option, Some, None, refl, sym, ap, ◌∙◌, arith}
use Rattle.std.specs.List.{slice_get}
use Rattle.std.proofs.lemmas.Option.{none-some, same_Some}
use Rattle.calls_form.specs.declared.object_class.Instruction.{Instruction}
use Rattle.calls_form.specs.declared.object_class.Placed.{Placed}
use Rattle.calls_form.specs.declared.object_class.Method.{Method}
use Rattle.calls_form.specs.declared.object_class.ObjectClass.{ObjectClass}
use Rattle.calls_model.specs.First.Machine.{InstructionAt}
use Rattle.calls_facts.specs.First.Depths.{taken, given, depth_from, depth_at}
use Rattle.calls_facts.specs.First.Names.{code_of, code_at, pc_of, pc_at}

-- one instruction stands at an index
pub one_instruction : (class : ObjectClass) (m i : ℕ) (p q : Placed) → InstructionAt class m i p → InstructionAt class m i q → p ≡ q
one_instruction class m i p q a b =
    let same : a.0 ≡ b.0 = same_Some a.0 b.0 (sym a.1 ∙ b.1) in
    same_Some p q (sym a.2 ∙ (ap (λ (x : Method). slice_get x.code i) same ∙ b.2))

-- the code of a method
pub code_at-is : (class : ObjectClass) (m : ℕ) (x : Method) → slice_get class.methods m ≡ Some x → code_at class m ≡ x.code
code_at-is class m x at = ap code_of at

pub pc_at-is : (class : ObjectClass) (m i : ℕ) (p : Placed) → InstructionAt class m i p → pc_at class m i ≡ p.pc
pc_at-is class m i p at = ap (λ (code : List Placed). pc_of (slice_get code i)) (code_at-is class m at.0 at.1) ∙ ap pc_of at.2

-- no word stands on the stack of a method that is entered
pub depth_at-zero : (class : ObjectClass) (m : ℕ) → depth_at class m 0 ≡ 0
unfolding depth_from
depth_at-zero class m = refl

pub depth_from-next : (class : ObjectClass) (depth : ℕ) (code : List Placed) (i : ℕ) (p : Placed) → slice_get code i ≡ Some p
    → depth_from class depth code (suc i) ≡ depth_from class depth code i - taken class p.instruction + given class p.instruction
unfolding depth_from
depth_from-next class depth [] i p at = absurd (none-some p at)
depth_from-next class depth (q ∷ code) zero p at = let same : q ≡ p = same_Some q p at in rw same refl
depth_from-next class depth (q ∷ code) (suc i) p at = depth_from-next class (depth - taken class q.instruction + given class q.instruction) code i p at

-- an instruction leaves so many words
pub depth_at-next : (class : ObjectClass) (m i : ℕ) (p : Placed) → InstructionAt class m i p
    → depth_at class m (suc i) ≡ depth_at class m i - taken class p.instruction + given class p.instruction
depth_at-next class m i p at = depth_from-next class 0 (code_at class m) i p (ap (λ (code : List Placed). slice_get code i) (code_at-is class m at.0 at.1) ∙ at.2)
