-- Main and the finalizers among the first methods of a class, and the depths of its codes.
use Rattle.std.proofs.Common.{◌≡◌, ◌↔◌, ℕ, zero, suc, ◌+◌, ◌-◌, ◌<◌, ◌≤◌, ◌^◌, ◌⊎◌, Bool, List, [], ◌∷◌, ◌++◌, length, get_or, Contains, Option, Some, None, refl, sym, ap, ◌∙◌, inl, inr, ⊎_elim, arith, length-append}
use Rattle.std.specs.List.{slice_get}
use Rattle.std.proofs.lemmas.Bool.{cases_eq, cases_lt}
use Rattle.std.proofs.lemmas.Option.{same_Some, slice_get_read, slice_get_within, slice_get-get_or, none-some}
use Rattle.std.proofs.lemmas.List.Elements.{Contains-append_left, Contains-push, Contains-push_cases}
use Rattle.jv_types.specs.declared.fact.CallFrom.TheVariants.{Root}
use Rattle.jv_types.specs.declared.fact.Fact.{Fact}
use Rattle.jv_types.specs.declared.fact.Fact.TheVariants.{Edge}
use Rattle.calls_form.specs.declared.object_class.Kind.{Kind}
use Rattle.calls_form.specs.declared.object_class.Instruction.{Instruction}
use Rattle.calls_form.specs.declared.object_class.Instruction.TheVariants as op
use Rattle.calls_form.specs.declared.object_class.Placed.{Placed}
use Rattle.calls_form.specs.declared.object_class.Method.{Method}
use Rattle.calls_form.specs.declared.object_class.ObjectClass.{ObjectClass}
use Rattle.calls_form.specs.Kinds as kinds
use Rattle.calls_form.specs.Kinds.{IsKindSafe}
use Rattle.calls_form.specs.Ranges.{IsInRange}
use Rattle.calls_model.specs.First.Machine.{InstructionAt, IsMain, IsFinalize}
use Rattle.calls_model.proofs.Lists.{append_left, push_at, push_cases}
use Rattle.calls_facts.specs.declared.first.step.Step.{Step}
use Rattle.calls_facts.specs.First.Depths.{taken, given, kind_count, depth_from}
use Rattle.calls_facts.specs.First.Names.{own, code_at}
use Rattle.calls_facts.specs.First.Closing.{AddsFacts, IsInside, IsClosing}
use Rattle.calls_facts.specs.First.Rules.{Has, IsClosed}
use Rattle.calls_facts.specs.First.Prepared.{IsReadable, HasLowDepths, AreStepsOf, AreSteps, AreFinalizers, IsMainMethod, IsFinalizeMethod, MainEdge, step_in, step_at}
use Rattle.calls_facts.proofs.Adding.{AddsFacts-none, AddsFacts-same, AddsFacts-then, closing_start}
use Rattle.calls_facts.proofs.Members.{nothing_in}
use Rattle.calls_facts.proofs.Offsets.{code_at-is, depth_from-next}
use Rattle.calls_facts.proofs.Returning.{argument_count-is, result_count-is}

-- main's edge, if main is one of the first methods
abbrev pub EdgeBelow : ObjectClass → ℕ → Fact → Type 0
EdgeBelow class count fact = (m : ℕ) × (m < count) × IsMain class m × (fact ≡ Edge Root (own m))

module _ (class : ObjectClass) (items : List Method) (same : items ≡ class.methods) (place : ℕ) (m : Method) (below : place < length items) (read : m ≡ get_or items place m) where
  -- what a read of the list says
  pub method_at : slice_get class.methods place ≡ Some m
  method_at = rw (← same) (slice_get_read items (length items) place m refl below read)

  pub main_at : IsMainMethod m → IsMain class place
  main_at main = (m, method_at, main.0, main.1, main.2, main.3)

  pub main_from : IsMain class place → IsMainMethod m
  main_from main = let one : main.0 ≡ m = same_Some main.0 m (sym main.1 ∙ method_at) in rw (← one) (main.2, main.3, main.4, main.5)

  pub finalize_at : IsFinalizeMethod m → IsFinalize class place
  finalize_at final = (m, method_at, final.0, final.1, final.2)

  pub finalize_from : IsFinalize class place → IsFinalizeMethod m
  finalize_from final = let one : final.0 ≡ m = same_Some final.0 m (sym final.1 ∙ method_at) in rw (← one) (final.2, final.3, final.4)

  -- one method more
  pub finalizers_more : (places new : List ℕ) → IsFinalizeMethod m → new ≡ places ++ place ∷ [] → ((to : ℕ) → Contains places to ↔ ((to < place) × IsFinalize class to))
      → (to : ℕ) → Contains new to ↔ ((to < place + 1) × IsFinalize class to)
  finalizers_more places new final new_is before to = (
    λ has.
        ⊎_elim
        (λ old. let h = (before to).0 old in (omega (arith, h.0), h.1))
        (λ (here : place ≡ to). (omega arith, rw (← here) (finalize_at final)))
        (Contains-push_cases places place to (rw new_is at has)),
    λ h.
        rw new_is
        (⊎_elim
        (λ (here : to ≡ place). rw here (Contains-push places place))
        (λ (other : to ≡ place → ⊥). Contains-append_left places (place ∷ []) to ((before to).1 (omega (arith, h.0), h.1)))
        (cases_eq to place)),
  )

  pub finalizers_same : (places new : List ℕ) → (IsFinalizeMethod m → ⊥) → new ≡ places → ((to : ℕ) → Contains places to ↔ ((to < place) × IsFinalize class to))
      → (to : ℕ) → Contains new to ↔ ((to < place + 1) × IsFinalize class to)
  finalizers_same places new not_final new_is before to = (
    λ has. let h = (before to).0 (rw new_is at has) in (omega (arith, h.0), h.1),
    λ h.
        rw new_is
        (⊎_elim
        (λ (here : to ≡ place). absurd (not_final (finalize_from (rw here at h.1))))
        (λ (other : to ≡ place → ⊥). (before to).1 (omega (arith, h.0), h.1))
        (cases_eq to place)),
  )

  pub entries_more : (a b c : List Fact) → IsMainMethod m → AddsFacts (EdgeBelow class place) a b → AddsFacts (λ fact. fact ≡ Edge Root (own place)) b c → AddsFacts (EdgeBelow class (place + 1)) a c
  entries_more a b c main first second =
      AddsFacts-same (λ fact. EdgeBelow class place fact ⊎ (fact ≡ Edge Root (own place))) (EdgeBelow class (place + 1)) a c
      (λ fact h. ⊎_elim (λ old. (old.0, omega (arith, old.1), old.2, old.3)) (λ new. (place, omega arith, main_at main, new)) h)
      (λ fact h. ⊎_elim (λ (here : h.0 ≡ place). inr (h.3 ∙ ap (λ (n : ℕ). Edge Root (own n)) here)) (λ (other : h.0 ≡ place → ⊥). inl (h.0, omega (arith, h.1), h.2, h.3)) (cases_eq h.0 place))
      (AddsFacts-then (EdgeBelow class place) (λ fact. fact ≡ Edge Root (own place)) a b c first second)

  pub entries_same : (a b : List Fact) → (IsMainMethod m → ⊥) → AddsFacts (EdgeBelow class place) a b → AddsFacts (EdgeBelow class (place + 1)) a b
  entries_same a b not_main adds =
      AddsFacts-same (EdgeBelow class place) (EdgeBelow class (place + 1)) a b
      (λ fact h. (h.0, omega (arith, h.1), h.2, h.3))
      (λ fact h. ⊎_elim (λ (here : h.0 ≡ place). absurd (not_main (main_from (rw here at h.2)))) (λ (other : h.0 ≡ place → ⊥). (h.0, omega (arith, h.1), h.2, h.3)) (cases_eq h.0 place))
      adds

-- all methods
pub entries_all : (class : ObjectClass) (count : ℕ) (a b : List Fact) → length class.methods ≤ count → AddsFacts (EdgeBelow class count) a b → AddsFacts (MainEdge class) a b
entries_all class count a b past adds =
    AddsFacts-same (EdgeBelow class count) (MainEdge class) a b
    (λ fact h. (h.0, h.2, h.3))
    (λ fact h. let within : h.0 < length class.methods = slice_get_within class.methods h.0 h.1.0 h.1.1 in (h.0, omega arith, h.1, h.2))
    adds

pub finalizers_all : (class : ObjectClass) (count : ℕ) (places : List ℕ) → length class.methods ≤ count → ((to : ℕ) → Contains places to ↔ ((to < count) × IsFinalize class to)) → AreFinalizers class places
finalizers_all class count places past each = record {
  all = λ to. (
    λ has. ((each to).0 has).1,
    λ final. let within : to < length class.methods = slice_get_within class.methods to final.0 final.1 in (each to).1 (omega arith, final),
  );
}

-- no method yet
pub entries_none : (class : ObjectClass) (list : List Fact) → AddsFacts (EdgeBelow class 0) list list
entries_none class list = AddsFacts-none (EdgeBelow class 0) list (λ fact h. absurd (omega (arith, h.1)))

pub finalizers_none : (class : ObjectClass) (places : List ℕ) → places ≡ [] → (to : ℕ) → Contains places to ↔ ((to < 0) × IsFinalize class to)
finalizers_none class places empty to = (λ has. absurd (nothing_in to (rw empty at has)), λ h. absurd (omega (arith, h.0)))

-- the search begins with main's edge alone
pub closing_entries : (class : ObjectClass) (steps : List (List Step)) (finalizers : List ℕ) (old list : List Fact) → old ≡ [] → AddsFacts (MainEdge class) old list → IsClosing class steps finalizers list [] 0
closing_entries class steps finalizers old list empty adds =
    closing_start class steps finalizers list
    (λ m main. adds.all _ (m, main, refl))
    (λ set closed fact has.
    ⊎_elim
    (λ none. absurd (nothing_in fact (rw empty at none)))
    (λ edge. rw edge.2 (closed.entry edge.0 edge.1))
    (adds.only fact has))

-- a class that was read from bytes has what the search asks
pub readable_from : (class : ObjectClass) → IsKindSafe class → IsInRange class → IsReadable class
readable_from class safe range = record {
  safe = safe;
  rises = λ m i j p q at_i at_j early.
      let same : at_j.0 ≡ at_i.0 = same_Some at_j.0 at_i.0 (sym at_j.1 ∙ at_i.1) in
      range.rises m i j at_i.0 p q at_i.1 at_i.2 (ap (λ (x : Method). slice_get x.code j) (sym same) ∙ at_j.2) early;
  few = range.few_methods;
  low = λ place m here. range.stacks place m here;
}
