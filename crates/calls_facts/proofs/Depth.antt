-- The depths of a code are those of its walk, and the instructions of a class are made of its codes.
use Rattle.std.proofs.Common.{◌≡◌, ℕ, zero, suc, ◌+◌, ◌-◌, ◌<◌, ◌≤◌, ◌^◌, ◌⊎◌, List, [], ◌∷◌, ◌++◌, length, get_or, Option, Some, None, refl, sym, ap, ◌∙◌, inl, inr, ⊎_elim, arith, length-append}
use Rattle.std.specs.List.{slice_get}
use Rattle.std.proofs.lemmas.Bool.{cases_eq, cases_lt}
use Rattle.std.proofs.lemmas.Option.{same_Some, slice_get_read, slice_get_within, slice_get-get_or, none-some}
use Rattle.calls_form.specs.declared.object_class.Kind.{Kind}
use Rattle.calls_form.specs.declared.object_class.Instruction.{Instruction}
use Rattle.calls_form.specs.declared.object_class.Instruction.TheVariants as op
use Rattle.calls_form.specs.declared.object_class.Placed.{Placed}
use Rattle.calls_form.specs.declared.object_class.Method.{Method}
use Rattle.calls_form.specs.declared.object_class.ObjectClass.{ObjectClass}
use Rattle.calls_form.specs.Kinds as kinds
use Rattle.calls_form.specs.Kinds.{Effect, IsWalk, result_kinds}
use Rattle.calls_model.specs.First.Machine.{InstructionAt}
use Rattle.calls_model.proofs.Lists.{append_left, push_at, push_cases}
use Rattle.calls_facts.specs.declared.first.step.Step.{Step}
use Rattle.calls_facts.specs.First.Depths.{taken, given, kind_count, depth_from}
use Rattle.calls_facts.specs.First.Names.{code_of, code_at, pc_of}
use Rattle.calls_facts.specs.First.Prepared.{IsReadable, HasLowDepths, AreStepsOf, AreSteps, step_in, step_at}
use Rattle.calls_facts.proofs.Offsets.{code_at-is, depth_from-next}
use Rattle.calls_facts.proofs.Returning.{argument_count-is, result_count-is}

result_kinds-count : (r : Option Kind) → length (result_kinds r) ≡ kind_count r
result_kinds-count None = refl
result_kinds-count (Some k) = refl

counted : (a b : List Kind) → a ≡ b → length a ≡ length b
counted a b e = ap (λ (x : List Kind). length x) e

-- an effect takes and gives as many words as are counted
effect_counts : (class : ObjectClass) (i : Instruction) (takes gives : List Kind) → Effect class i takes gives → (length takes ≡ taken class i) × (length gives ≡ given class i)
effect_counts class op.Nop takes gives (a, b) = (counted _ _ a, counted _ _ b)
effect_counts class op.PushNull takes gives (a, b) = (counted _ _ a, counted _ _ b)
effect_counts class op.PushWord takes gives (a, b) = (counted _ _ a, counted _ _ b)
effect_counts class (op.Load k local) takes gives (a, b) = (counted _ _ a, counted _ _ b)
effect_counts class (op.Store k local) takes gives (a, b) = (counted _ _ a, counted _ _ b)
effect_counts class op.Pop takes gives (k, a, b) = (counted _ _ a, counted _ _ b)
effect_counts class op.Dup takes gives (k, a, b) = (counted _ _ a, counted _ _ b)
effect_counts class op.Combine takes gives (a, b) = (counted _ _ a, counted _ _ b)
effect_counts class op.Negate takes gives (a, b) = (counted _ _ a, counted _ _ b)
effect_counts class (op.GetStatic place) takes gives (x, is, a, b) = (counted _ _ a, counted _ _ b)
effect_counts class (op.PutStatic place) takes gives (x, is, a, b) = (counted _ _ a, counted _ _ b)
effect_counts class (op.GetField place) takes gives (x, is, a, b) = (counted _ _ a, counted _ _ b)
effect_counts class (op.PutField place) takes gives (x, is, a, b) = (counted _ _ a, counted _ _ b)
effect_counts class (op.InvokeVirtual place) takes gives (m, is, a, b) =
    (counted _ _ a ∙ sym (argument_count-is class place m is.0), counted _ _ b ∙ (result_kinds-count m.result ∙ sym (result_count-is class place m is.0)))
effect_counts class (op.InvokeSpecial place) takes gives (m, is, a, b) =
    (counted _ _ a ∙ sym (argument_count-is class place m is.0), counted _ _ b ∙ (result_kinds-count m.result ∙ sym (result_count-is class place m is.0)))
effect_counts class op.InvokeObjectInit takes gives (a, b) = (counted _ _ a, counted _ _ b)
effect_counts class (op.InvokeStatic place) takes gives (m, is, a, b) =
    (counted _ _ a ∙ sym (argument_count-is class place m is.0), counted _ _ b ∙ (result_kinds-count m.result ∙ sym (result_count-is class place m is.0)))
effect_counts class op.New takes gives (a, b) = (counted _ _ a, counted _ _ b)
effect_counts class (op.Return result) takes gives none = absurd none

-- as many words stand on the stack of a frame of the walk
walk_depth : (class : ObjectClass) (m : Method) (frames : List kinds.Frame) → IsWalk class m frames → (i : ℕ) (f : kinds.Frame) → slice_get frames i ≡ Some f → length f.stack ≡ depth_from class 0 m.code i
unfolding depth_from
walk_depth class m frames walk zero f here =
    let first : f ≡ kinds.start m = same_Some f (kinds.start m) (sym here ∙ walk.starts) in
    ap (λ (g : kinds.Frame). length g.stack) first
walk_depth class m frames walk (suc i) f here =
    let within : suc i < length frames = slice_get_within frames (suc i) f here in
    let as_many = walk.as_many in
    let d : kinds.Frame = kinds.start m in
    let before : kinds.Frame = get_or frames i d in
    let before_at : slice_get frames i ≡ Some before = slice_get-get_or frames i d (omega arith) in
    let nothing : Placed = record { pc = 0; instruction = op.Nop } in
    let p : Placed = get_or m.code i nothing in
    let p_at : slice_get m.code i ≡ Some p = slice_get-get_or m.code i nothing (omega arith) in
    let goes = walk.goes i p before f p_at before_at here in
    let counts = effect_counts class p.instruction goes.takes goes.gives goes.effect in
    let depth = walk_depth class m frames walk i before before_at in
    let old = counted before.stack (goes.rest ++ goes.takes) goes.found in
    let new = counted f.stack (goes.rest ++ goes.gives) goes.left in
    let step = depth_from-next class 0 m.code i p p_at in
    omega (arith, depth, old, new, step, counts.0, counts.1, length-append goes.rest goes.takes, length-append goes.rest goes.gives)

-- the depths of a readable class are low
pub low_depths : (class : ObjectClass) → IsReadable class → (place : ℕ) (m : Method) → slice_get class.methods place ≡ Some m → HasLowDepths class m.code
low_depths class readable place m here = record {
  low = λ i within.
      let walk = readable.safe.walks place m here in
      let d : kinds.Frame = kinds.start m in
      let f : kinds.Frame = get_or walk.0 i d in
      let as_many = walk.1.as_many in
      let f_at : slice_get walk.0 i ≡ Some f = slice_get-get_or walk.0 i d (omega arith) in
      let depth = walk_depth class m walk.0 walk.1 i f f_at in
      let most = walk.1.within i f f_at in
      let low = readable.low place m here in
      omega (arith, depth, most, low);
}

-- ---- the instructions of a code, one by one

pub pushed_count : {X : Type 0} (xs new : List X) (x : X) (i : ℕ) → new ≡ xs ++ x ∷ [] → length xs ≡ i → length new ≡ i + 1
pushed_count xs new x i is count = omega (arith, ap length is, length-append xs (x ∷ []))

pub step_is : (class : ObjectClass) (code : List Placed) (i : ℕ) (p : Placed) (next depth : ℕ) → next ≡ pc_of (slice_get code (suc i)) → depth ≡ depth_from class 0 code i
    → record { pc = p.pc; next = next; depth = depth; instruction = p.instruction } ≡ step_in class code i p
step_is class code i p next depth next_is depth_is =
    ap (λ (n : ℕ). let st : Step = record { pc = p.pc; next = n; depth = depth; instruction = p.instruction } in st) next_is
    ∙ ap (λ (n : ℕ). let st : Step = record { pc = p.pc; next = pc_of (slice_get code (suc i)); depth = n; instruction = p.instruction } in st) depth_is

pub depth_more : (class : ObjectClass) (code : List Placed) (i : ℕ) (d : Placed) (depth after : ℕ) → i < length code → depth ≡ depth_from class 0 code i
    → after ≡ depth - taken class (get_or code i d).instruction + given class (get_or code i d).instruction → after ≡ depth_from class 0 code (i + 1)
depth_more class code i d depth after below depth_is after_is =
    let one : i + 1 ≡ suc i = omega arith in
    let step = depth_from-next class 0 code i (get_or code i d) (slice_get-get_or code i d below) in
    after_is ∙ (ap (λ (n : ℕ). n - taken class (get_or code i d).instruction + given class (get_or code i d).instruction) depth_is ∙ (sym step ∙ ap (depth_from class 0 code) (sym one)))

pub depth_from_parts : (class : ObjectClass) (code : List Placed) (i : ℕ) (d : Placed) (depth takes left gives : ℕ) → i < length code → depth ≡ depth_from class 0 code i
    → takes ≡ taken class (get_or code i d).instruction → left ≡ depth - takes → gives ≡ given class (get_or code i d).instruction → left + gives ≡ depth_from class 0 code (i + 1)
depth_from_parts class code i d depth takes left gives below depth_is takes_is left_is gives_is =
    depth_more class code i d depth (left + gives) below depth_is
    (ap (λ (n : ℕ). n + gives) (left_is ∙ ap (λ (n : ℕ). depth - n) takes_is) ∙ ap (λ (n : ℕ). depth - taken class (get_or code i d).instruction + n) gives_is)

pub steps_more : (class : ObjectClass) (code : List Placed) (i : ℕ) (d : Placed) (steps new : List Step) (st : Step) → i < length code → length steps ≡ i → st ≡ step_in class code i (get_or code i d) → new ≡ steps ++ st ∷ []
    → ((k : ℕ) (p : Placed) → k < i → slice_get code k ≡ Some p → slice_get steps k ≡ Some (step_in class code k p))
    → (k : ℕ) (p : Placed) → k < i + 1 → slice_get code k ≡ Some p → slice_get new k ≡ Some (step_in class code k p)
steps_more class code i d steps new st below count is new_is before k p early here =
    ⊎_elim
    (λ (old : k < i). rw new_is (append_left steps (st ∷ []) k _ (before k p old here)))
    (λ (late : i ≤ k).
    let now : k ≡ i = omega arith in
    let one : get_or code i d ≡ p = same_Some _ p (sym (slice_get-get_or code i d below) ∙ (ap (slice_get code) (sym now) ∙ here)) in
    let at_end : slice_get (steps ++ st ∷ []) i ≡ Some st = ap (slice_get (steps ++ st ∷ [])) (sym count) ∙ push_at steps st in
    rw (new_is, now) (at_end ∙ ap Some (is ∙ ap (step_in class code i) one)))
    (cases_lt k i)

pub steps_all : (class : ObjectClass) (code : List Placed) (i : ℕ) (steps : List Step) → i ≤ length code → length code ≤ i → length steps ≡ i
    → ((k : ℕ) (p : Placed) → k < i → slice_get code k ≡ Some p → slice_get steps k ≡ Some (step_in class code k p)) → AreStepsOf class code steps
steps_all class code i steps in_range past count each = record {
  count = omega arith;
  each = λ k p here. let within : k < length code = slice_get_within code k p here in each k p (omega arith) here;
}

-- ---- the rows of a class

-- the first methods have their rows
abbrev pub HaveRows : ObjectClass → List (List Step) → ℕ → Type 0
HaveRows class rows count = (m : ℕ) (x : Method) → m < count → slice_get class.methods m ≡ Some x → (row : List Step) × (slice_get rows m ≡ Some row) × AreStepsOf class x.code row

pub rows_more : (class : ObjectClass) (i : ℕ) (x : Method) (rows new : List (List Step)) (row : List Step) → slice_get class.methods i ≡ Some x → length rows ≡ i → new ≡ rows ++ row ∷ [] → AreStepsOf class x.code row
    → HaveRows class rows i → HaveRows class new (i + 1)
rows_more class i x rows new row here count new_is are before m y early at_y =
    ⊎_elim
    (λ (old : m < i). let h = before m y old at_y in (h.0, rw new_is (append_left rows (row ∷ []) m h.0 h.1), h.2))
    (λ (late : i ≤ m).
    let now : m ≡ i = omega arith in
    let one : x ≡ y = same_Some x y (sym here ∙ (ap (slice_get class.methods) (sym now) ∙ at_y)) in
    let at_end : slice_get (rows ++ row ∷ []) i ≡ Some row = ap (slice_get (rows ++ row ∷ [])) (sym count) ∙ push_at rows row in
    (row, rw (new_is, now) at_end, rw (← one) are))
    (cases_lt m i)

pub rows_all : (class : ObjectClass) (i : ℕ) (rows : List (List Step)) → length class.methods ≤ i → i ≤ length class.methods → length rows ≡ i → HaveRows class rows i → AreSteps class rows
rows_all class i rows past in_range count have = record {
  there = λ m k p here.
      let within : m < length class.methods = slice_get_within class.methods m here.0 here.1 in
      let row = have m here.0 (omega arith) here.1 in
      (row.0, row.1, row.2.each k p here.2 ∙ ap (λ (code : List Placed). Some (step_in class code k p)) (sym (code_at-is class m here.0 here.1)));
  only = λ m row k st at_row at_st.
      let within : m < length rows = slice_get_within rows m row at_row in
      let nobody : Method = get_or class.methods m (dummy class.methods m (omega arith)) in
      let x_at : slice_get class.methods m ≡ Some nobody = slice_get-get_or class.methods m (dummy class.methods m (omega arith)) (omega arith) in
      let own = have m nobody (omega arith) x_at in
      let same : own.0 ≡ row = same_Some own.0 row (sym own.1 ∙ at_row) in
      let in_row : k < length row = slice_get_within row k st at_st in
      let long : length row ≡ length nobody.code = ap (λ (r : List Step). length r) (sym same) ∙ own.2.count in
      let nothing : Placed = record { pc = 0; instruction = op.Nop } in
      let p : Placed = get_or nobody.code k nothing in
      let p_at : slice_get nobody.code k ≡ Some p = slice_get-get_or nobody.code k nothing (omega arith) in
      let made : slice_get row k ≡ Some (step_in class nobody.code k p) = ap (λ (r : List Step). slice_get r k) (sym same) ∙ own.2.each k p p_at in
      (p, (nobody, x_at, p_at), same_Some st _ (sym at_st ∙ made) ∙ ap (λ (code : List Placed). step_in class code k p) (sym (code_at-is class m nobody x_at)));
}
  where
    dummy : (ms : List Method) (k : ℕ) → k < length ms → Method
    dummy [] k within = absurd (omega arith)
    dummy (x ∷ ms) k within = x
