-- The instructions that are read stand in the bytes, and those that stand in the bytes are read.
use Rattle.std.proofs.Common.{◌≡◌, ℕ, zero, suc, ◌+◌, ◌-◌, ◌≤◌, ◌<◌, ◌^◌, eqb, List, [], ◌∷◌, ◌++◌, length, Option, Some, None, refl, sym, ap, subst, ◌∙◌, arith, inl, inr}
use Rattle.std.proofs.lemmas.Bool.{eqb-true}
use Rattle.std.proofs.lemmas.List.{nil_from_length, length-append}
use Rattle.calls_form.specs.declared.outline.Entry.{Entry}
use Rattle.calls_form.specs.declared.object_class.Instruction.{Instruction}
use Rattle.calls_form.specs.declared.object_class.Instruction.TheVariants.{PushWord, Load, Store}
use Rattle.calls_form.specs.declared.object_class.Placed.{Placed}
use Rattle.calls_form.specs.declared.object_class.ObjectClass.{ObjectClass}
use Rattle.calls_form.specs.declared.opcode.Format.{Format}
use Rattle.calls_form.specs.declared.opcode.Format.TheVariants.{Alone, Byte, Short, LoadAt, StoreAt, Named}
use Rattle.calls_form.specs.declared.target.Target.{Target}
use Rattle.calls_form.specs.Layout.{u2}
use Rattle.calls_form.specs.Opcodes.{format_of, named}
use Rattle.calls_form.specs.ObjectForm.{IsTarget, Spells, IsInstruction, AreInstructions}
use Rattle.calls_form.specs.Reading.{◌>>=◌, u1_at, u2_at}
use Rattle.calls_form.specs.Classes.{IsBytes}
use Rattle.calls_form.specs.ClassesBodies.{named_at, operands_at, step_at, before, placed_at}
use Rattle.calls_form.proofs.ClassesSteps.{chosen}
use Rattle.calls_form.proofs.ClassesTurns.{placed_none, placed_step, then_placed}
use Rattle.calls_form.proofs.ClassesTypes.{one_takes}
use Rattle.calls_form.proofs.LayoutFields.{bind_some, given_as, IsBytes-rest, u2_takes, u2_again}

-- what a table has is what the pool names
pub record KnowsTargets (pool : List Entry) (class : ObjectClass) (target : ℕ → Option Target) : Type 0 where
  pub sound : (i : ℕ) (t : Target) → i < 2 ^ 16 → target i ≡ Some t → IsTarget pool class i t
  pub complete : (i : ℕ) (t : Target) → i < 2 ^ 16 → IsTarget pool class i t → target i ≡ Some t

-- ---- one instruction

-- the bytes behind an opcode are what follows it in the text of an instruction
record TakesOperands (pool : List Entry) (class : ObjectClass) (op : ℕ) (format : Format) (bytes : List ℕ) (x : Instruction × List ℕ) : Type 0 where
  operands : List ℕ
  parts : bytes ≡ operands ++ x.1
  rest_fits : IsBytes x.1
  spells : Spells pool class op format (op ∷ operands) x.0

operands_take : (pool : List Entry) (class : ObjectClass) (target : ℕ → Option Target) → KnowsTargets pool class target → (op : ℕ) (format : Format) (bytes : List ℕ) (x : Instruction × List ℕ) → IsBytes bytes
    → operands_at target op format bytes ≡ Some x → TakesOperands pool class op format bytes x
unfolding operands_at named_at
operands_take pool class target knows op (Alone i) bytes x fits e =
    given_as (TakesOperands pool class op (Alone i) bytes) (i, bytes) x e (record { operands = []; parts = refl; rest_fits = fits; spells = (refl, refl) })
operands_take pool class target knows op Byte bytes x fits e =
    let a = bind_some (u1_at bytes) (λ value. Some (PushWord, value.1)) x e in
    let is = one_takes bytes a.0 a.1 in
    given_as (TakesOperands pool class op Byte bytes) (PushWord, a.0.1) x a.2
    (record { operands = a.0.0 ∷ []; parts = is; rest_fits = IsBytes-rest a.0.0 a.0.1 (subst IsBytes is fits); spells = (a.0.0, refl, refl) })
operands_take pool class target knows op Short bytes x fits e =
    let a = bind_some (u2_at bytes) (λ value. Some (PushWord, value.1)) x e in
    let t = u2_takes bytes a.0 fits a.1 in
    given_as (TakesOperands pool class op Short bytes) (PushWord, a.0.1) x a.2
    (record { operands = u2 a.0.0; parts = t.0.parts; rest_fits = t.0.rest_fits; spells = (a.0.0, t.1, refl, refl) })
operands_take pool class target knows op (LoadAt kind) bytes x fits e =
    let a = bind_some (u1_at bytes) (λ local. Some (Load kind local.0, local.1)) x e in
    let is = one_takes bytes a.0 a.1 in
    given_as (TakesOperands pool class op (LoadAt kind) bytes) (Load kind a.0.0, a.0.1) x a.2
    (record { operands = a.0.0 ∷ []; parts = is; rest_fits = IsBytes-rest a.0.0 a.0.1 (subst IsBytes is fits); spells = (a.0.0, refl, refl) })
operands_take pool class target knows op (StoreAt kind) bytes x fits e =
    let a = bind_some (u1_at bytes) (λ local. Some (Store kind local.0, local.1)) x e in
    let is = one_takes bytes a.0 a.1 in
    given_as (TakesOperands pool class op (StoreAt kind) bytes) (Store kind a.0.0, a.0.1) x a.2
    (record { operands = a.0.0 ∷ []; parts = is; rest_fits = IsBytes-rest a.0.0 a.0.1 (subst IsBytes is fits); spells = (a.0.0, refl, refl) })
operands_take pool class target knows op Named bytes x fits e =
    let a = bind_some (u2_at bytes) (λ index. target index.0 >>= λ found. named op found >>= λ instruction. Some (instruction, index.1)) x e in
    let b = bind_some (target a.0.0) (λ found. named op found >>= λ instruction. Some (instruction, a.0.1)) x a.2 in
    let c = bind_some (named op b.0) (λ instruction. Some (instruction, a.0.1)) x b.2 in
    let t = u2_takes bytes a.0 fits a.1 in
    given_as (TakesOperands pool class op Named bytes) (c.0, a.0.1) x c.2
    (record { operands = u2 a.0.0; parts = t.0.parts; rest_fits = t.0.rest_fits; spells = (a.0.0, b.0, t.1, refl, knows.sound a.0.0 b.0 t.1 b.1, c.1) })

-- an instruction stands at the front
pub record TakesStep (pool : List Entry) (class : ObjectClass) (bytes : List ℕ) (x : Instruction × List ℕ) : Type 0 where
  pub front : List ℕ
  pub parts : bytes ≡ front ++ x.1
  pub rest_fits : IsBytes x.1
  pub is_instruction : IsInstruction pool class front x.0

pub step_takes : (pool : List Entry) (class : ObjectClass) (target : ℕ → Option Target) → KnowsTargets pool class target → (bytes : List ℕ) (x : Instruction × List ℕ) → IsBytes bytes
    → step_at target bytes ≡ Some x → TakesStep pool class bytes x
unfolding step_at
step_takes pool class target knows [] x fits e = absurd cc
step_takes pool class target knows (op ∷ bytes) x fits e =
    let a = bind_some (format_of op) (λ format. operands_at target op format bytes) x e in
    let t = operands_take pool class target knows op a.0 bytes x (IsBytes-rest op bytes fits) a.2 in
    record { front = op ∷ t.operands; parts = ap (λ (r : List ℕ). op ∷ r) t.parts; rest_fits = t.rest_fits; is_instruction = (op, a.0, a.1, t.spells) }

spelled_again : (pool : List Entry) (class : ObjectClass) (target : ℕ → Option Target) → KnowsTargets pool class target → (op : ℕ) (format : Format) (front rest : List ℕ) (i : Instruction)
    → format_of op ≡ Some format → Spells pool class op format front i → step_at target (front ++ rest) ≡ Some (i, rest)
unfolding step_at operands_at named_at
spelled_again pool class target knows op (Alone j) front rest i f h =
    ap (λ (t : List ℕ). step_at target (t ++ rest)) h.0 ∙ rw f (ap (λ (k : Instruction). let y : Instruction × List ℕ = (k, rest) in Some y) (sym h.1))
spelled_again pool class target knows op Byte front rest i f h =
    ap (λ (t : List ℕ). step_at target (t ++ rest)) h.1 ∙ rw f (ap (λ (k : Instruction). let y : Instruction × List ℕ = (k, rest) in Some y) (sym h.2))
spelled_again pool class target knows op Short front rest i f h =
    ap (λ (t : List ℕ). step_at target (t ++ rest)) h.2 ∙ rw (f, u2_again h.0 rest h.1) (ap (λ (k : Instruction). let y : Instruction × List ℕ = (k, rest) in Some y) (sym h.3))
spelled_again pool class target knows op (LoadAt kind) front rest i f h =
    ap (λ (t : List ℕ). step_at target (t ++ rest)) h.1 ∙ rw f (ap (λ (k : Instruction). let y : Instruction × List ℕ = (k, rest) in Some y) (sym h.2))
spelled_again pool class target knows op (StoreAt kind) front rest i f h =
    ap (λ (t : List ℕ). step_at target (t ++ rest)) h.1 ∙ rw f (ap (λ (k : Instruction). let y : Instruction × List ℕ = (k, rest) in Some y) (sym h.2))
spelled_again pool class target knows op Named front rest i f h =
    ap (λ (t : List ℕ). step_at target (t ++ rest)) h.3 ∙ rw (f, u2_again h.0 rest h.2, knows.complete h.0 h.1 h.2 h.4, h.5) refl

pub step_again : (pool : List Entry) (class : ObjectClass) (target : ℕ → Option Target) → KnowsTargets pool class target → (front rest : List ℕ) (i : Instruction) → IsInstruction pool class front i
    → step_at target (front ++ rest) ≡ Some (i, rest)
step_again pool class target knows front rest i h = spelled_again pool class target knows h.0 h.1 front rest i h.2 h.3

-- an instruction has a byte or more
spelled_some : (pool : List Entry) (class : ObjectClass) (op : ℕ) (format : Format) (front : List ℕ) (i : Instruction) → Spells pool class op format front i → (others : List ℕ) × (front ≡ op ∷ others)
spelled_some pool class op (Alone j) front i h = ([], h.0)
spelled_some pool class op Byte front i h = (h.0 ∷ [], h.1)
spelled_some pool class op Short front i h = (u2 h.0, h.2)
spelled_some pool class op (LoadAt kind) front i h = (h.0 ∷ [], h.1)
spelled_some pool class op (StoreAt kind) front i h = (h.0 ∷ [], h.1)
spelled_some pool class op Named front i h = (u2 h.0, h.3)

pub instruction_some : (pool : List Entry) (class : ObjectClass) (front : List ℕ) (i : Instruction) → IsInstruction pool class front i → 0 < length front
instruction_some pool class front i h =
    let s = spelled_some pool class h.0 h.1 front i h.3 in
    let len = ap length s.1 in
    omega (arith, len)

-- ---- all instructions

placed_is : (p : Placed) (pc : ℕ) → p.pc ≡ pc → record { pc = pc; instruction = p.instruction } ≡ p
placed_is p pc e = ap (λ (k : ℕ). let x : Placed = record { pc = k; instruction = p.instruction } in x) (sym e)

pub placed_take : (pool : List Entry) (class : ObjectClass) (target : ℕ → Option Target) → KnowsTargets pool class target → (n pc : ℕ) (bytes : List ℕ) (list : List Placed) → IsBytes bytes
    → placed_at n target pc bytes ≡ Some list → AreInstructions pool class pc bytes list
unfolding placed_at
placed_take pool class target knows zero pc bytes list fits e =
    elim (chosen (eqb (length bytes) 0) (Some []) None (Some list) e) [
      | inl h ↦ given_as (AreInstructions pool class pc bytes) [] list h.1 (nil_from_length bytes (eqb-true (length bytes) 0 h.0))
      | inr h ↦ absurd (let no : None ≡ Some list = h.1 in cc)
    ]
placed_take pool class target knows (suc n) pc bytes list fits e =
    elim (chosen (eqb (length bytes) 0) (Some []) (step_at target bytes >>= then_placed n target pc (length bytes)) (Some list) e) [
      | inl h ↦ given_as (AreInstructions pool class pc bytes) [] list h.1 (nil_from_length bytes (eqb-true (length bytes) 0 h.0))
      | inr h ↦
          let a = bind_some (step_at target bytes) (then_placed n target pc (length bytes)) list h.1 in
          let first : Placed = record { pc = pc; instruction = a.0.0 } in
          let b = bind_some (placed_at n target (pc + (length bytes - length a.0.1)) a.0.1) (λ others. Some (first ∷ others)) list a.2 in
          let t = step_takes pool class target knows bytes a.0 fits a.1 in
          let len = ap length t.parts in
          let on : length bytes - length a.0.1 ≡ length t.front = omega (arith, len, length-append t.front a.0.1) in
          let later = placed_take pool class target knows n (pc + (length bytes - length a.0.1)) a.0.1 b.0 t.rest_fits b.1 in
          let moved : AreInstructions pool class (pc + length t.front) a.0.1 b.0 = subst (λ (k : ℕ). AreInstructions pool class (pc + k) a.0.1 b.0) on later in
          given_as (AreInstructions pool class pc bytes) (first ∷ b.0) list b.2 (t.front, a.0.1, t.parts, refl, t.is_instruction, moved)
    ]

pub placed_again : (pool : List Entry) (class : ObjectClass) (target : ℕ → Option Target) → KnowsTargets pool class target → (n pc : ℕ) (bytes : List ℕ) (list : List Placed)
    → length bytes ≤ n → AreInstructions pool class pc bytes list → placed_at n target pc bytes ≡ Some list
placed_again pool class target knows n pc bytes [] le h = placed_none n target pc bytes (ap length h)
placed_again pool class target knows zero pc bytes (first ∷ others) le h =
    let some = instruction_some pool class h.0 first.instruction h.4 in
    let len = ap length h.2 in
    absurd (omega (arith, le, some, len, length-append h.0 h.1))
placed_again pool class target knows (suc n) pc bytes (first ∷ others) le h =
    let some = instruction_some pool class h.0 first.instruction h.4 in
    let len = ap length h.2 in
    let positive : 0 < length bytes = omega (arith, some, len, length-append h.0 h.1) in
    let on : length h.0 ≡ length bytes - length h.1 = omega (arith, len, length-append h.0 h.1) in
    let later = placed_again pool class target knows n (pc + length h.0) h.1 others (omega (arith, le, some, len, length-append h.0 h.1)) h.5 in
    let moved : placed_at n target (pc + (length bytes - length h.1)) h.1 ≡ Some others = subst (λ (k : ℕ). placed_at n target (pc + k) h.1 ≡ Some others) on later in
    let step : step_at target bytes ≡ Some (first.instruction, h.1) = ap (step_at target) h.2 ∙ step_again pool class target knows h.0 h.1 first.instruction h.4 in
    placed_step n target pc bytes positive
    ∙ ap (λ (o : Option (Instruction × List ℕ)). o >>= then_placed n target pc (length bytes)) step
    ∙ ap (before (record { pc = pc; instruction = first.instruction })) moved
    ∙ ap (λ (p : Placed). Some (p ∷ others)) (placed_is first pc h.3)
