-- Closed facts cover each run: an induction over its events.
use Rattle.std.proofs.Common.{◌≡◌, ℕ, zero, suc, ◌⊎◌, Bool, List, [], ◌∷◌, ◌++◌, length, Contains, Some, refl, sym, ap, ◌∙◌, inl, inr, ⊎_elim, arith}
use Rattle.std.specs.Prelude.{slice_set}
use Rattle.std.specs.List.{slice_get, AllByRecursion}
use Rattle.std.proofs.lemmas.Option.{none-some, same_Some, slice_get_read}
use Rattle.std.proofs.lemmas.List.Elements.{Contains-get_or}
use Rattle.std.proofs.lemmas.Bool.{cases_eq}
use Rattle.jv_types.specs.declared.fact.CallFrom.TheVariants as from
use Rattle.jv_types.specs.declared.fact.Fact.{Fact}
use Rattle.jv_types.specs.declared.fact.Fact.TheVariants.{Pt}
use Rattle.calls_form.specs.declared.object_class.ObjectClass.{ObjectClass}
use Rattle.calls_form.specs.Kinds.{IsKindSafe}
use Rattle.calls_model.specs.First.Machine.{Cell, Null, Object, Arguments, New, HeapObject, Frame, Memory, State, Event, Main, Finalize, Go, Throw, MethodCall, enter, Step, Leads, start}
use Rattle.calls_model.specs.First.Keeping.{KeepsObjects}
use Rattle.calls_model.proofs.Lists.{push_at, push_cases, set_cases}
use Rattle.calls_model.proofs.Objects.{keeps_push, does_keep}
use Rattle.calls_facts.specs.First.Names.{new_at, InLocal, slot_place, pc_at}
use Rattle.calls_facts.specs.First.Rules.{Has, IsClosed}
use Rattle.calls_facts.specs.First.Covered.{call_fact, CallsCovered, FrameCovered, IsCovered}
use Rattle.calls_facts.proofs.Standing.{Stands, Stands-keep, CellCovered-stands, zero_stands}
use Rattle.calls_facts.proofs.Frames.{InSlot, FrameStands, ThreadStands, ThreadStands-keep, enters}
use Rattle.calls_facts.proofs.Instructions.{MemoryStands, IsFinalized-keep, does_stand}

-- what holds of each of two lists holds of each of both
AllByRecursion-append : {X : Type 0} (P : X → Type 0) (xs ys : List X) → AllByRecursion P xs → AllByRecursion P ys → AllByRecursion P (xs ++ ys)
AllByRecursion-append P [] ys first second = second
AllByRecursion-append P (x ∷ xs) ys first second = (first.0, AllByRecursion-append P xs ys first.1 second)

module _ (class : ObjectClass) (set : Fact → Bool) (closed : IsClosed class set) (safe : IsKindSafe class) where
  -- all that stands in a state has its facts
  pub record StateStands (s : State) : Type 0 where
    pub threads : (thread : ℕ) (frames : List Frame) → slice_get s.threads thread ≡ Some frames → ThreadStands class set s.memory.heap frames
    pub memory : MemoryStands class set s.memory

  -- after an event all still stands, and its calls have their facts
  record StepStands (calls : List MethodCall) (new : State) : Type 0 where
    state : StateStands new
    calls_have : CallsCovered set calls

  MemoryStands-keep : (old : Memory) (heap : List HeapObject) → KeepsObjects old.heap heap → ((number : ℕ) (o : HeapObject) (method pc : ℕ) → slice_get heap number ≡ Some o → o.making ≡ New method pc → slice_get old.heap number ≡ Some o)
      → MemoryStands class set old → MemoryStands class set (record { heap = heap; statics = old.statics; finalizable = old.finalizable })
  MemoryStands-keep old heap keeps only m = record {
    statics = λ n. Stands-keep set old.heap heap _ (old.statics n) keeps (m.statics n);
    fields = λ n o method pc field found made. Stands-keep set old.heap heap _ (o.fields field) keeps (m.fields n o method pc field (only n o method pc found made) made);
    finalizable = λ n found. IsFinalized-keep class set old.heap heap n keeps (m.finalizable n found);
  }

  -- a thread's frames after another thread's were written
  threads_set : (heap : List HeapObject) (threads : List (List Frame)) (j : ℕ) (written : List Frame) → ThreadStands class set heap written
      → ((thread : ℕ) (frames : List Frame) → slice_get threads thread ≡ Some frames → ThreadStands class set heap frames)
      → (thread : ℕ) (frames : List Frame) → slice_get (slice_set threads j written) thread ≡ Some frames → ThreadStands class set heap frames
  threads_set heap threads j written stands before thread frames found =
      ⊎_elim (λ old. before thread frames old) (λ new. rw (← new.1) stands) (set_cases threads j written thread frames found)

  after_main : (old : State) (calls : List MethodCall) (new : State) → StateStands old → Step class old Main calls new → StepStands calls new
  after_main old calls new s (place, main, first, calls_are, new_is) =
      let edge = closed.entry place main in
      let made : HeapObject = record { making = Arguments; fields = λ _. Null } in
      let heap : List HeapObject = old.memory.heap ++ made ∷ [] in
      let keeps : KeepsObjects old.memory.heap heap = keeps_push old.memory.heap made in
      rw (calls_are, new_is) (record {
        state = record {
          threads = threads_set heap old.threads 0 (enter place (Object (length old.memory.heap) ∷ []) ∷ [])
              (enters class set heap place (Object (length old.memory.heap) ∷ []) (argument_stands old.memory.heap made refl place) (closed.reach from.Root place edge), tt, tt)
              (λ thread frames found. ThreadStands-keep class set old.memory.heap heap frames keeps (s.threads thread frames found));
          memory = MemoryStands-keep old.memory heap keeps (λ n o method pc found has. only_old old.memory.heap n o method pc found has) s.memory;
        };
        calls_have = (edge, tt);
      })
    where
      argument_stands : (heap : List HeapObject) (made : HeapObject) → made.making ≡ Arguments → (place word : ℕ) (cell : Cell) → slice_get (Object (length heap) ∷ []) word ≡ Some cell
          → InSlot class set (heap ++ made ∷ []) place 0 (InLocal word) cell
      argument_stands heap made is place zero cell found =
          let same : Object (length heap) ≡ cell = same_Some (Object (length heap)) cell found in
          rw (← same) (record { object = made; is = push_at heap made; stands = rw is tt })
      argument_stands heap made is place (suc word) cell found = absurd (none-some cell found)

      only_old : (heap : List HeapObject) (n : ℕ) (o : HeapObject) (method pc : ℕ) → slice_get (heap ++ record { making = Arguments; fields = λ _. Null } ∷ []) n ≡ Some o
          → o.making ≡ New method pc → slice_get heap n ≡ Some o
      only_old heap n o method pc found has =
          ⊎_elim
          (λ old_one. old_one)
          (λ new. let wrong : Arguments ≡ New method pc = ap (λ (x : HeapObject). x.making) new.1 ∙ has in absurd (cc wrong))
          (push_cases heap (record { making = Arguments; fields = λ _. Null }) n o found)

  after_finalize : (object : ℕ) (old : State) (calls : List MethodCall) (new : State) → StateStands old → Step class old (Finalize object) calls new → StepStands calls new
  after_finalize object old calls new s (place, is, may, calls_are, new_is) =
      let known = s.memory.finalizable object may in
      let called = known.called place is in
      rw (calls_are, new_is) (record {
        state = record {
          threads = λ thread frames found.
              ⊎_elim
              (λ before. s.threads thread frames before)
              (λ new_thread.
              rw (← new_thread.1) (
                enters class set old.memory.heap place (Object object ∷ [])
                    (λ word cell at_word. receiver_stands place known.object known.is_own.0 known.is_own.1.0 known.is_own.1.1 known.is_own.1.2 called.1 word cell at_word)
                    (closed.reach from.Root place called.0),
                tt,
                tt,
              ))
              (push_cases old.threads (enter place (Object object ∷ []) ∷ []) thread frames found);
          memory = s.memory;
        };
        calls_have = (called.0, tt);
      })
    where
      receiver_stands : (place : ℕ) (o : HeapObject) → slice_get old.memory.heap object ≡ Some o → (method pc : ℕ) → o.making ≡ New method pc
          → Has set (Pt (slot_place place (pc_at class place 0) (InLocal 0)) (new_at method pc)) → (word : ℕ) (cell : Cell) → slice_get (Object object ∷ []) word ≡ Some cell
          → InSlot class set old.memory.heap place 0 (InLocal word) cell
      receiver_stands place o here method pc made fact zero cell found =
          let same : Object object ≡ cell = same_Some (Object object) cell found in
          rw (← same) (record { object = o; is = here; stands = rw made fact })
      receiver_stands place o here method pc made fact (suc word) cell found = absurd (none-some cell found)

  after_go : (thread : ℕ) (old : State) (calls : List MethodCall) (new : State) → StateStands old → Step class old (Go thread) calls new → StepStands calls new
  after_go thread old calls new s step = go step
    where
      go : Step class old (Go thread) calls new → StepStands calls new
      go (f, below, p, out, running, here, does, calls_are, new_is) =
          let stands = s.threads thread (f ∷ below) running in
          let after = does_stand class set closed old.memory f below p here stands.0 stands.1 stands.2 s.memory safe p.instruction refl out does in
          let keeps : KeepsObjects old.memory.heap out.memory.heap = does_keep class p.pc old.memory f below out p.instruction does in
          rw (calls_are, new_is) (record {
            state = record {
              threads = threads_set out.memory.heap old.threads thread out.frames after.frames
                  (λ other frames found. ThreadStands-keep class set old.memory.heap out.memory.heap frames keeps (s.threads other frames found));
              memory = after.memory;
            };
            calls_have = after.calls;
          })

  after_throw : (thread : ℕ) (old : State) (calls : List MethodCall) (new : State) → StateStands old → Step class old (Throw thread) calls new → StepStands calls new
  after_throw thread old calls new s (f, below, running, calls_are, new_is) =
      rw (calls_are, new_is) (record {
        state = record { threads = threads_set old.memory.heap old.threads thread [] tt s.threads; memory = s.memory };
        calls_have = tt;
      })

  after : (event : Event) (old : State) (calls : List MethodCall) (new : State) → StateStands old → Step class old event calls new → StepStands calls new
  after Main old calls new s step = after_main old calls new s step
  after (Finalize object) old calls new s step = after_finalize object old calls new s step
  after (Go thread) old calls new s step = after_go thread old calls new s step
  after (Throw thread) old calls new s step = after_throw thread old calls new s step

  leads_stand : (events : List Event) (old : State) (calls : List MethodCall) (new : State) → StateStands old → Leads class old events calls new → StepStands calls new
  leads_stand [] old calls new s (calls_are, new_is) = rw (calls_are, new_is) (record { state = s; calls_have = tt })
  leads_stand (event ∷ events) old calls new s (mid, now, later, step, rest, calls_are) =
      let first = after event old now mid s step in
      let then = leads_stand events mid later new first.state rest in
      rw calls_are (record { state = then.state; calls_have = AllByRecursion-append _ now later first.calls_have then.calls_have })

  start_stands : StateStands (start class)
  start_stands = record {
    threads = one_thread;
    memory = record {
      statics = λ n. zero_stands class set [] _ n;
      fields = λ n o method pc field found made. absurd (none-some o found);
      finalizable = λ n found. absurd (omega (arith, found.1));
    };
  }
    where
      one_thread : (thread : ℕ) (frames : List Frame) → slice_get (start class).threads thread ≡ Some frames → ThreadStands class set [] frames
      one_thread zero frames found = let same : [] ≡ frames = same_Some [] frames found in rw (← same) tt
      one_thread (suc thread) frames found = absurd (none-some frames found)

  -- as the definitions say it
  frame_in : (heap : List HeapObject) (frames : List Frame) (k : ℕ) (f : Frame) → slice_get frames k ≡ Some f → ThreadStands class set heap frames → FrameStands class set heap f
  frame_in heap [] k f found stands = absurd (none-some f found)
  frame_in heap (g ∷ frames) zero f found stands = let same : g ≡ f = same_Some g f found in rw (← same) stands.0
  frame_in heap (g ∷ frames) (suc k) f found stands = frame_in heap frames k f found stands.2

  FrameCovered-stands : (heap : List HeapObject) (f : Frame) → FrameStands class set heap f → FrameCovered class set heap f
  FrameCovered-stands heap f h = record {
    locals = λ word cell found. CellCovered-stands set heap _ cell (h.locals word cell found);
    stack = λ word cell found. CellCovered-stands set heap _ cell (h.stack word cell found);
  }

  IsCovered-stands : (s : State) → StateStands s → IsCovered class set s
  IsCovered-stands s h = record {
    frames = λ thread frames f at_thread has.
        let found : slice_get frames has.0 ≡ Some f = slice_get_read frames (length frames) has.0 f refl has.1 (sym has.2) in
        FrameCovered-stands s.memory.heap f (frame_in s.memory.heap frames has.0 f found (h.threads thread frames at_thread));
    statics = λ field. CellCovered-stands set s.memory.heap _ (s.memory.statics field) (h.memory.statics field);
    fields = λ number o method pc field found made. CellCovered-stands set s.memory.heap _ (o.fields field) (h.memory.fields number o method pc field found made);
  }

  pub covers : (events : List Event) (calls : List MethodCall) (end : State) → Leads class (start class) events calls end → CallsCovered set calls × IsCovered class set end
  covers events calls end leads =
      let after_all = leads_stand events (start class) calls end start_stands leads in
      (after_all.calls_have, IsCovered-stands end after_all.state)
