-- One turn of the loop over the instructions of a code.
use Rattle.std.proofs.Common.{◌≡◌, ℕ, zero, suc, ◌-◌, ◌+◌, ◌≤◌, ◌<◌, Bool, true, false, eqb, List, [], ◌∷◌, ◌++◌, length, Option, Some, None, refl, sym, ap, subst, ◌∙◌, append_assoc, arith}
use Rattle.std.proofs.lemmas.List.{append-nil}
use Rattle.std.proofs.lemmas.Bool.{eqb-true, ne_eqb, false≢true}
use Rattle.calls_form.specs.declared.read_error.ReadError.{ReadError}
use Rattle.calls_form.specs.declared.read_error.ReadError.TheVariants as errors
use Rattle.calls_form.specs.declared.object_class.Instruction.{Instruction}
use Rattle.calls_form.specs.declared.object_class.Instruction.TheVariants.{PushWord, Load, Store}
use Rattle.calls_form.specs.declared.object_class.Placed.{Placed}
use Rattle.calls_form.specs.declared.opcode.Format.{Format}
use Rattle.calls_form.specs.declared.opcode.Format.TheVariants.{Alone, Byte, Short, LoadAt, StoreAt, Named}
use Rattle.calls_form.specs.declared.target.Target.{Target}
use Rattle.calls_form.specs.Opcodes.{format_of, named}
use Rattle.calls_form.specs.Reading.{◌>>=◌, Fails, u1_at, u2_at}
use Rattle.calls_form.specs.ClassesBodies.{named_at, operands_at, step_at, before, placed_at, placed_from}
use Rattle.calls_form.proofs.ClassesFields.{u1_shorter, u2_shorter}
use Rattle.calls_form.proofs.ClassesLoops.{with_front}
use Rattle.calls_form.proofs.LayoutFields.{bind_some, some_is}

-- what is left is no longer
shorter_as : {A : Type 0} (n : ℕ) (made x : A × List ℕ) → made ≡ x → length made.1 ≤ n → length x.1 ≤ n
shorter_as {A} n made x is le = subst (λ (y : A × List ℕ). length y.1 ≤ n) is le

operands_shorter : (target : ℕ → Option Target) (op : ℕ) (format : Format) (bytes : List ℕ) (x : Instruction × List ℕ) → operands_at target op format bytes ≡ Some x → length x.1 ≤ length bytes
unfolding operands_at named_at
operands_shorter target op (Alone instruction) bytes x e = shorter_as (length bytes) (instruction, bytes) x (some_is (instruction, bytes) x e) (omega arith)
operands_shorter target op Byte bytes x e =
    let a = bind_some (u1_at bytes) (λ value. Some (PushWord, value.1)) x e in
    shorter_as (length bytes) (PushWord, a.0.1) x (some_is (PushWord, a.0.1) x a.2) (u1_shorter bytes a.0 a.1)
operands_shorter target op Short bytes x e =
    let a = bind_some (u2_at bytes) (λ value. Some (PushWord, value.1)) x e in
    shorter_as (length bytes) (PushWord, a.0.1) x (some_is (PushWord, a.0.1) x a.2) (u2_shorter bytes a.0 a.1)
operands_shorter target op (LoadAt kind) bytes x e =
    let a = bind_some (u1_at bytes) (λ local. Some (Load kind local.0, local.1)) x e in
    shorter_as (length bytes) (Load kind a.0.0, a.0.1) x (some_is (Load kind a.0.0, a.0.1) x a.2) (u1_shorter bytes a.0 a.1)
operands_shorter target op (StoreAt kind) bytes x e =
    let a = bind_some (u1_at bytes) (λ local. Some (Store kind local.0, local.1)) x e in
    shorter_as (length bytes) (Store kind a.0.0, a.0.1) x (some_is (Store kind a.0.0, a.0.1) x a.2) (u1_shorter bytes a.0 a.1)
operands_shorter target op Named bytes x e =
    let a = bind_some (u2_at bytes) (λ index. target index.0 >>= λ found. named op found >>= λ instruction. Some (instruction, index.1)) x e in
    let b = bind_some (target a.0.0) (λ found. named op found >>= λ instruction. Some (instruction, a.0.1)) x a.2 in
    let c = bind_some (named op b.0) (λ instruction. Some (instruction, a.0.1)) x b.2 in
    shorter_as (length bytes) (c.0, a.0.1) x (some_is (c.0, a.0.1) x c.2) (u2_shorter bytes a.0 a.1)

-- a step takes a byte or more
pub step_shorter : (target : ℕ → Option Target) (bytes : List ℕ) (x : Instruction × List ℕ) → step_at target bytes ≡ Some x → length x.1 < length bytes
unfolding step_at
step_shorter target [] x e = absurd cc
step_shorter target (op ∷ rest) x e =
    let a = bind_some (format_of op) (λ format. operands_at target op format rest) x e in
    let le = operands_shorter target op a.0 rest x a.2 in
    omega (arith, le)

-- the instruction, and those after it
abbrev pub then_placed : ℕ → (ℕ → Option Target) → ℕ → ℕ → Instruction × List ℕ → Option (List Placed)
then_placed n target pc len x = before (record { pc = pc; instruction = x.0 }) (placed_at n target (pc + (len - length x.1)) x.1)

some_bytes : (bytes : List ℕ) → 0 < length bytes → eqb (length bytes) 0 ≡ false
some_bytes bytes some = ne_eqb (length bytes) 0 (λ e. absurd (omega (arith, e, some)))

-- a test that nothing is left
pub some_left : (rest : List ℕ) (b : Bool) → b ≡ eqb (length rest) 0 → b ≡ false → 0 < length rest
some_left [] b e f = absurd (false≢true (sym f ∙ e))
some_left (x ∷ rest) b e f = omega arith

pub none_left : (rest : List ℕ) (b : Bool) → b ≡ eqb (length rest) 0 → b ≡ true → length rest ≡ 0
none_left rest b e f = eqb-true (length rest) 0 (sym e ∙ f)

-- where something is left, a step comes first
pub placed_step : (n : ℕ) (target : ℕ → Option Target) (pc : ℕ) (bytes : List ℕ) → 0 < length bytes → placed_at (suc n) target pc bytes ≡ (step_at target bytes >>= then_placed n target pc (length bytes))
unfolding placed_at
placed_step n target pc bytes some = rw (some_bytes bytes some) refl

pub placed_none : (n : ℕ) (target : ℕ → Option Target) (pc : ℕ) (bytes : List ℕ) → length bytes ≡ 0 → placed_at n target pc bytes ≡ Some []
unfolding placed_at
placed_none zero target pc bytes none = rw none refl
placed_none (suc n) target pc bytes none = rw none refl

same_after : (n m : ℕ) (target : ℕ → Option Target) (pc : ℕ) (bytes : List ℕ) (o : Option (Instruction × List ℕ)) → step_at target bytes ≡ o
    → ((x : Instruction × List ℕ) → length x.1 < length bytes → placed_at n target (pc + (length bytes - length x.1)) x.1 ≡ placed_at m target (pc + (length bytes - length x.1)) x.1)
    → (o >>= then_placed n target pc (length bytes)) ≡ (o >>= then_placed m target pc (length bytes))
same_after n m target pc bytes None e later = refl
same_after n m target pc bytes (Some x) e later = ap (before (record { pc = pc; instruction = x.0 })) (later x (step_shorter target bytes x e))

-- it doesn't matter how many instructions more there might have been
pub placed_same : (n m : ℕ) (target : ℕ → Option Target) (pc : ℕ) (bytes : List ℕ) → length bytes ≤ n → length bytes ≤ m → placed_at n target pc bytes ≡ placed_at m target pc bytes
placed_same n m target pc [] le le' = placed_none n target pc [] refl ∙ sym (placed_none m target pc [] refl)
placed_same zero m target pc (b ∷ rest) le le' = absurd (omega (arith, le))
placed_same (suc n) zero target pc (b ∷ rest) le le' = absurd (omega (arith, le'))
placed_same (suc n) (suc m) target pc (b ∷ rest) le le' =
    let some : 0 < length (b ∷ rest) = omega arith in
    placed_step n target pc (b ∷ rest) some
    ∙ same_after n m target pc (b ∷ rest) (step_at target (b ∷ rest)) refl (λ x lt. placed_same n m target (pc + (length (b ∷ rest) - length x.1)) x.1 (omega (arith, lt, le)) (omega (arith, lt, le')))
    ∙ sym (placed_step m target pc (b ∷ rest) some)

front_before : (front : List Placed) (first : Placed) (read : Option (List Placed)) → with_front front (before first read) ≡ with_front (front ++ first ∷ []) read
front_before front first None = refl
front_before front first (Some others) = ap (λ (list : List Placed). Some list) (simp append_assoc)

-- where something is left, a step comes first, with as many instructions as there are bytes
pub placed_first : (target : ℕ → Option Target) (pc : ℕ) (bytes : List ℕ) → 0 < length bytes
    → placed_from target pc bytes ≡ (step_at target bytes >>= λ x. before (record { pc = pc; instruction = x.0 }) (placed_from target (pc + (length bytes - length x.1)) x.1))
placed_first target pc [] some = absurd (omega arith)
placed_first target pc (b ∷ rest) some =
    let n = length rest in
    placed_step n target pc (b ∷ rest) some ∙ fewer (step_at target (b ∷ rest)) refl
  where
    fewer : (o : Option (Instruction × List ℕ)) → step_at target (b ∷ rest) ≡ o
        → (o >>= then_placed (length rest) target pc (length (b ∷ rest))) ≡ (o >>= λ x. before (record { pc = pc; instruction = x.0 }) (placed_from target (pc + (length (b ∷ rest) - length x.1)) x.1))
    fewer None e = refl
    fewer (Some x) e =
        let lt = step_shorter target (b ∷ rest) x e in
        ap (before (record { pc = pc; instruction = x.0 })) (placed_same (length rest) (length x.1) target (pc + (length (b ∷ rest) - length x.1)) x.1 (omega (arith, lt)) (omega arith))

-- an instruction was read
pub steps_go_on : (target : ℕ → Option Target) (front : List Placed) (len : ℕ) (rest : List ℕ) (x : Instruction × List ℕ) (total : Option (List Placed))
    → 0 < length rest → length rest ≤ len → step_at target rest ≡ Some x → with_front front (placed_from target (len - length rest) rest) ≡ total
    → with_front (front ++ record { pc = len - length rest; instruction = x.0 } ∷ []) (placed_from target (len - length x.1) x.1) ≡ total
steps_go_on target front len rest x total some within e so_far =
    let shorter = step_shorter target rest x e in
    let first : Placed = record { pc = len - length rest; instruction = x.0 } in
    let after = λ (y : Instruction × List ℕ). before (let p : Placed = record { pc = len - length rest; instruction = y.0 } in p) (placed_from target ((len - length rest) + (length rest - length y.1)) y.1) in
    let placed : placed_from target (len - length rest) rest ≡ after x =
    placed_first target (len - length rest) rest some ∙ ap (λ (o : Option (Instruction × List ℕ)). o >>= after) e in
    let on : len - length x.1 ≡ (len - length rest) + (length rest - length x.1) = omega (arith, shorter) in
    let later : with_front (front ++ first ∷ []) (placed_from target (len - length x.1) x.1) ≡ with_front front (after x) =
    ap (λ (k : ℕ). with_front (front ++ first ∷ []) (placed_from target k x.1)) on ∙ sym (front_before front first (placed_from target ((len - length rest) + (length rest - length x.1)) x.1)) in
    later ∙ ap (with_front front) (sym placed) ∙ so_far

-- an instruction that is not read ends it all
pub steps_end : (error : ReadError) (target : ℕ → Option Target) (front : List Placed) (pc : ℕ) (rest : List ℕ) (total : Option (List Placed))
    → 0 < length rest → Fails error (step_at target rest) → with_front front (placed_from target pc rest) ≡ total → Fails error total
steps_end errors.Memory target front pc rest total some fails so_far = tt
steps_end errors.Malformed target front pc rest total some fails so_far =
    let none : placed_from target pc rest ≡ None = placed_first target pc rest some
    ∙ ap (λ (o : Option (Instruction × List ℕ)). o >>= λ x. before (record { pc = pc; instruction = x.0 }) (placed_from target (pc + (length rest - length x.1)) x.1)) fails in
    sym so_far ∙ ap (with_front front) none

-- all instructions were read
pub steps_done : (target : ℕ → Option Target) (front : List Placed) (pc : ℕ) (rest : List ℕ) (total : Option (List Placed))
    → length rest ≡ 0 → with_front front (placed_from target pc rest) ≡ total → total ≡ Some front
steps_done target front pc rest total none so_far =
    sym so_far ∙ ap (with_front front) (placed_none (length rest) target pc rest none) ∙ ap (λ (list : List Placed). Some list) (append-nil front)
