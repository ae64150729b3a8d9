-- Objects stay, and keep their making: event by event, and over runs.
use Rattle.std.proofs.Common.{◌≡◌, ℕ, List, [], ◌∷◌, ◌++◌, Some, refl, sym, ap, ◌∙◌, ⊎_elim}
use Rattle.std.specs.Prelude.{slice_set}
use Rattle.std.specs.List.{slice_get}
use Rattle.std.proofs.lemmas.Option.{same_Some}
use Rattle.calls_form.specs.declared.object_class.Instruction.{Instruction}
use Rattle.calls_form.specs.declared.object_class.Instruction.TheVariants as op
use Rattle.calls_form.specs.declared.object_class.ObjectClass.{ObjectClass}
use Rattle.calls_model.specs.First.Machine.{HeapObject, Frame, Memory, State, Event, Main, Finalize, Go, Throw, MethodCall, Outcome, Does, Step, Leads}
use Rattle.calls_model.specs.First.Keeping.{KeepsObjects}
use Rattle.calls_model.proofs.Lists.{append_left, set_kept}

pub keeps_all : (heap : List HeapObject) → KeepsObjects heap heap
keeps_all heap = record { kept = λ number o at. (o, at, refl) }

pub keeps_same : (a b : List HeapObject) → b ≡ a → KeepsObjects a b
keeps_same a b e = rw e (keeps_all a)

pub keeps_then : (a b c : List HeapObject) → KeepsObjects a b → KeepsObjects b c → KeepsObjects a c
keeps_then a b c first second = record {
  kept = λ number o at.
      let mid = first.kept number o at in
      let end = second.kept number mid.0 mid.1 in
      (end.0, end.1, end.2 ∙ mid.2);
}

-- one more object
pub keeps_push : (heap : List HeapObject) (o : HeapObject) → KeepsObjects heap (heap ++ o ∷ [])
keeps_push heap o = record { kept = λ number x at. (x, append_left heap (o ∷ []) number x at, refl) }

-- an object whose fields are written
pub keeps_write : (heap : List HeapObject) (number : ℕ) (o after : HeapObject) → slice_get heap number ≡ Some o → after.making ≡ o.making
    → KeepsObjects heap (slice_set heap number after)
keeps_write heap number o after at same = record {
  kept = λ n x at_n.
      ⊎_elim
      (λ stays. (x, stays, refl))
      (λ written.
      let one : o ≡ x = same_Some o x (sym at ∙ (ap (slice_get heap) (sym written.0) ∙ at_n)) in
      (after, written.1, same ∙ ap (λ (h : HeapObject). h.making) one))
      (set_kept heap number after n x at_n);
}

module _ (class : ObjectClass) (pc : ℕ) (memory : Memory) (f : Frame) (below : List Frame) (out : Outcome) where
  quietly : (after : Outcome) → out ≡ after → after.memory.heap ≡ memory.heap → KeepsObjects memory.heap out.memory.heap
  quietly after e same = keeps_same memory.heap out.memory.heap (ap (λ (x : Outcome). x.memory.heap) e ∙ same)

  pub does_keep : (i : Instruction) → Does class i pc memory f below out → KeepsObjects memory.heap out.memory.heap
  does_keep op.Nop h = quietly _ h refl
  does_keep op.PushNull h = quietly _ h refl
  does_keep op.PushWord h = quietly _ h refl
  does_keep (op.Load kind local) h = quietly _ h.3 refl
  does_keep (op.Store kind local) h = quietly _ h.4 refl
  does_keep op.Pop h = quietly _ h.3 refl
  does_keep op.Dup h = quietly _ h.3 refl
  does_keep op.Combine h = quietly _ h.2 refl
  does_keep op.Negate h = quietly _ h.2 refl
  does_keep (op.GetStatic place) h = quietly _ h refl
  does_keep (op.PutStatic place) h = quietly _ h.4 refl
  does_keep (op.GetField place) h = quietly _ h.5 refl
  does_keep (op.PutField place) h = rw h.7 (keeps_write memory.heap h.1 h.3 _ h.5.0 refl)
  does_keep (op.InvokeVirtual place) h = quietly _ h.4.5 refl
  does_keep (op.InvokeSpecial place) h = quietly _ h.4.5 refl
  does_keep (op.InvokeStatic place) h = quietly _ h.1.5 refl
  does_keep op.InvokeObjectInit h = quietly _ h.5 refl
  does_keep op.New h = rw h (keeps_push memory.heap _)
  does_keep (op.Return result) h = quietly _ h.4.2 refl

pub step_keeps : (class : ObjectClass) (old : State) (event : Event) (calls : List MethodCall) (new : State) → Step class old event calls new
    → KeepsObjects old.memory.heap new.memory.heap
step_keeps class old Main calls new (place, main, first, calls_are, new_is) = rw new_is (keeps_push old.memory.heap _)
step_keeps class old (Finalize object) calls new (place, is, may, calls_are, new_is) = rw new_is (keeps_all old.memory.heap)
step_keeps class old (Go thread) calls new (f, below, p, out, at, is, does, calls_are, new_is) =
    rw new_is (does_keep class p.pc old.memory f below out p.instruction does)
step_keeps class old (Throw thread) calls new (f, below, at, calls_are, new_is) = rw new_is (keeps_all old.memory.heap)

pub leads_keep : (class : ObjectClass) (old : State) (events : List Event) (calls : List MethodCall) (new : State) → Leads class old events calls new
    → KeepsObjects old.memory.heap new.memory.heap
leads_keep class old [] calls new (calls_are, new_is) = rw new_is (keeps_all old.memory.heap)
leads_keep class old (event ∷ events) calls new (mid, now, later, step, rest, calls_are) =
    keeps_then old.memory.heap mid.memory.heap new.memory.heap (step_keeps class old event now mid step) (leads_keep class mid events later new rest)
