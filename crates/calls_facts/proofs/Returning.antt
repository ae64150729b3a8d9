-- What kind-safe classes say of returns, and what is known of a call's instruction.
use Rattle.std.proofs.Common.{◌≡◌, ℕ, suc, ◌<◌, ◌≤◌, ◌⊎◌, List, length, Option, Some, None, refl, sym, ap, ◌∙◌, ⊎_elim, arith, get_or}
use Rattle.std.specs.List.{slice_get}
use Rattle.std.proofs.lemmas.Bool.{cases_lt}
use Rattle.std.proofs.lemmas.Option.{slice_get_within, slice_get-get_or, same_Some}
use Rattle.calls_form.specs.declared.object_class.Kind.{Kind}
use Rattle.calls_form.specs.declared.object_class.Instruction.{Instruction}
use Rattle.calls_form.specs.declared.object_class.Instruction.TheVariants as op
use Rattle.calls_form.specs.declared.object_class.Placed.{Placed}
use Rattle.calls_form.specs.declared.object_class.Method.{Method}
use Rattle.calls_form.specs.declared.object_class.ObjectClass.{ObjectClass}
use Rattle.calls_form.specs.Kinds as kinds
use Rattle.calls_form.specs.Kinds.{Effect, IsWalk, IsKindSafe}
use Rattle.calls_model.specs.First.Machine.{InstructionAt, Invokes, argument_count}
use Rattle.calls_facts.specs.First.Depths.{kind_count, result_count, taken, given}
use Rattle.calls_facts.specs.First.Rules.{IsReturn, Writes, SendsTo}

-- a return that isn't the last instruction would lead nowhere
return_leads_nowhere : (class : ObjectClass) (i : Instruction) (result : Option Kind) (takes gives : List Kind) → i ≡ op.Return result → Effect class i takes gives → ⊥
return_leads_nowhere class i result takes gives is effect = rw is at effect

walk_returns : (class : ObjectClass) (m : Method) (frames : List kinds.Frame) → IsWalk class m frames → (i : ℕ) (p : Placed) (result : Option Kind) → slice_get m.code i ≡ Some p
    → p.instruction ≡ op.Return result → m.result ≡ result
walk_returns class m frames walk i p result here is =
    let within : i < length m.code = slice_get_within m.code i p here in
    let some_frame : kinds.Frame = kinds.start m in
    let f : kinds.Frame = get_or frames i some_frame in
    let counted = walk.as_many in
    let f_at : slice_get frames i ≡ Some f = slice_get-get_or frames i some_frame (omega arith) in
    ⊎_elim
    (λ (more : suc i < length m.code).
    let g_at = slice_get-get_or frames (suc i) some_frame (omega arith) in
    let goes = walk.goes i p f (get_or frames (suc i) some_frame) here f_at g_at in
    absurd (return_leads_nowhere class p.instruction result goes.takes goes.gives is goes.effect))
    (λ (past : length m.code ≤ suc i).
    let e = sym (walk.ends i p f here f_at (omega arith)).0 ∙ is in
    cc)
    (cases_lt (suc i) (length m.code))

-- a return of a kind-safe class is that of its method's result
pub return_fits : (class : ObjectClass) → IsKindSafe class → (m i : ℕ) (p : Placed) (result : Option Kind) (here : InstructionAt class m i p) → p.instruction ≡ op.Return result → here.0.result ≡ result
return_fits class safe m i p result here is =
    let walk = safe.walks m here.0 here.1 in
    walk_returns class here.0 walk.0 walk.1 i p result here.2 is

-- ---- a call

pub invokes_one : (i : Instruction) (a b : ℕ) → Invokes i a → Invokes i b → a ≡ b
invokes_one (op.InvokeVirtual to) a b x y = sym x ∙ y
invokes_one (op.InvokeSpecial to) a b x y = sym x ∙ y
invokes_one (op.InvokeStatic to) a b x y = sym x ∙ y
invokes_one _ a b x y = absurd x

pub invokes_taken : (class : ObjectClass) (i : Instruction) (place : ℕ) → Invokes i place → taken class i ≡ argument_count class place
invokes_taken class (op.InvokeVirtual to) place x = ap (argument_count class) x
invokes_taken class (op.InvokeSpecial to) place x = ap (argument_count class) x
invokes_taken class (op.InvokeStatic to) place x = ap (argument_count class) x
invokes_taken class _ place x = absurd x

pub invokes_given : (class : ObjectClass) (i : Instruction) (place : ℕ) → Invokes i place → given class i ≡ result_count class place
invokes_given class (op.InvokeVirtual to) place x = ap (result_count class) x
invokes_given class (op.InvokeSpecial to) place x = ap (result_count class) x
invokes_given class (op.InvokeStatic to) place x = ap (result_count class) x
invokes_given class _ place x = absurd x

pub invokes_goes : (i : Instruction) (place : ℕ) → Invokes i place → ¬ IsReturn i
invokes_goes (op.Return result) place x = absurd x
invokes_goes _ place x = λ r. r

pub invokes_writes : (i : Instruction) (place : ℕ) → Invokes i place → (word : ℕ) → ¬ Writes i word
invokes_writes (op.Store kind to) place x word = absurd x
invokes_writes _ place x word = λ r. r

pub sends_invokes : (i : Instruction) (place : ℕ) → SendsTo i place → Invokes i place
sends_invokes (op.InvokeVirtual to) place x = x
sends_invokes (op.InvokeSpecial to) place x = x
sends_invokes _ place x = absurd x

pub argument_count-is : (class : ObjectClass) (place : ℕ) (m : Method) → slice_get class.methods place ≡ Some m → argument_count class place ≡ length m.arguments
argument_count-is class place m here = ap (λ (found : Option Method). elim found [ None ↦ 0 | Some x ↦ length x.arguments ]) here

pub result_count-is : (class : ObjectClass) (place : ℕ) (m : Method) → slice_get class.methods place ≡ Some m → result_count class place ≡ kind_count m.result
result_count-is class place m here = ap (λ (found : Option Method). elim found [ None ↦ 0 | Some x ↦ kind_count x.result ]) here
