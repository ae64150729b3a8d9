-- What each instruction leaves has its facts, where what it found had: one lemma for each.
use Rattle.std.proofs.Common.{◌≡◌, ℕ, zero, suc, ◌+◌, ◌-◌, ◌<◌, ◌≤◌, ◌⊎◌, Bool, true, false, cond, List, [], ◌∷◌, ◌++◌, length, Contains, Option, Some, None, refl, sym, ap, ◌∙◌, subst, inl, inr, ⊎_elim, arith, length-append}
use Rattle.std.specs.Prelude.{◌==◌, slice_set}
use Rattle.std.specs.List.{slice_get, AllZip}
use Rattle.std.proofs.Math.Dec.{eqb_refl}
use Rattle.std.proofs.lemmas.Bool.{cases_Bool, cases_eq, cases_lt, eqb-true}
use Rattle.std.proofs.lemmas.List.{append-nil}
use Rattle.std.proofs.lemmas.Map.Made.{Contains-tail}
use Rattle.std.proofs.lemmas.Slice.Zip.{AllZip-long}
use Rattle.std.proofs.lemmas.Option.{slice_get_within, none-some, same_Some}
use Rattle.jv_types.specs.declared.label.Label.{Label}
use Rattle.jv_types.specs.declared.place.Place.{Place}
use Rattle.jv_types.specs.declared.place.Place.TheVariants as place
use Rattle.jv_types.specs.declared.fact.CallFrom.TheVariants as from
use Rattle.jv_types.specs.declared.fact.Fact.{Fact}
use Rattle.jv_types.specs.declared.fact.Fact.TheVariants.{Reach, Edge, Pt}
use Rattle.calls_form.specs.declared.object_class.Kind.{Kind}
use Rattle.calls_form.specs.declared.object_class.Kind.TheVariants as kind
use Rattle.calls_form.specs.declared.object_class.Instruction.{Instruction}
use Rattle.calls_form.specs.declared.object_class.Instruction.TheVariants as op
use Rattle.calls_form.specs.declared.object_class.Placed.{Placed}
use Rattle.calls_form.specs.declared.object_class.Method.{Method}
use Rattle.calls_form.specs.declared.object_class.ObjectClass.{ObjectClass}
use Rattle.calls_form.specs.Kinds.{IsKindSafe, result_kinds}
use Rattle.calls_model.specs.First.Machine.{Cell, Null, Int, Object, Making, Arguments, New, HeapObject, IsOwnObject, Frame, Memory, MethodCall, Site, Own, ObjectInit, Outcome, InstructionAt, IsFinalize, Invokes, Fits, put, put_local, zero_field, enter, next, next_stored, quiet, Calls, Sends, GoesBack, Does}
use Rattle.calls_model.specs.First.Keeping.{KeepsObjects}
use Rattle.calls_model.proofs.Lists.{append_right, push_at, push_cases, set_cases}
use Rattle.calls_model.proofs.Objects.{keeps_push, keeps_write}
use Rattle.calls_facts.specs.First.Depths.{kind_count, taken, given, depth_at}
use Rattle.calls_facts.specs.First.Names.{own, own_field, new_at, Slot, InLocal, OnStack, slot_place, pc_at}
use Rattle.calls_facts.specs.First.Rules.{Has, IsReturn, Writes, SendsTo, first_argument, IsClosed}
use Rattle.calls_facts.specs.First.Covered.{CallsCovered}
use Rattle.calls_facts.proofs.Standing.{MakingStands, ObjectStands, Stands, Stands-move, Stands-keep, own_label, zero_stands}
use Rattle.calls_facts.proofs.Offsets.{one_instruction}
use Rattle.calls_facts.proofs.Returning.{return_fits, invokes_one, invokes_taken, invokes_given, invokes_goes, invokes_writes, sends_invokes, argument_count-is, result_count-is}
use Rattle.calls_facts.proofs.Frames.{InSlot, FrameStands, Waits, CallerWaits, ThreadStands, ThreadStands-keep, FrameStands-keep, at_pc, on_stack, goes_on, goes_on_with, local_stays, enters}

-- an object of the class that may be finalized: the library calls its finalizer on it
pub record IsFinalized (class : ObjectClass) (set : Fact → Bool) (heap : List HeapObject) (number : ℕ) : Type 0 where
  pub object : HeapObject
  pub is_own : IsOwnObject heap number object
  pub called : (to : ℕ) → IsFinalize class to
      → Has set (Edge from.Root (own to)) × Has set (Pt (slot_place to (pc_at class to 0) (InLocal 0)) (new_at is_own.1.0 is_own.1.1))

-- what the threads share has its facts
pub record MemoryStands (class : ObjectClass) (set : Fact → Bool) (memory : Memory) : Type 0 where
  pub statics : (field : ℕ) → Stands set memory.heap (place.Static (own_field field)) (memory.statics field)
  pub fields : (number : ℕ) (o : HeapObject) (method pc field : ℕ) → slice_get memory.heap number ≡ Some o → o.making ≡ New method pc
      → Stands set memory.heap (place.Field (new_at method pc) (own_field field)) (o.fields field)
  pub finalizable : (number : ℕ) → Contains memory.finalizable number → IsFinalized class set memory.heap number

-- what an instruction leaves has its facts
pub record OutcomeStands (class : ObjectClass) (set : Fact → Bool) (out : Outcome) : Type 0 where
  pub frames : ThreadStands class set out.memory.heap out.frames
  pub memory : MemoryStands class set out.memory
  pub calls : CallsCovered set out.calls

-- ---- cells that are written

put_stands : (P : Cell → Type 0) (cells : ℕ → Cell) (field : ℕ) (cell : Cell) (n : ℕ) → (n ≡ field → P cell) → P (cells n) → P (put cells field cell n)
put_stands P cells field cell n written unwritten =
    ⊎_elim
    (λ (one : (n == field) ≡ true). rw one (written (eqb-true n field one)))
    (λ (other : (n == field) ≡ false). rw other unwritten)
    (cases_Bool (n == field))

different : (word local : ℕ) → local ≡ word → (word == local) ≡ false → ⊥
different word local same differ = let never : (word == word) ≡ false = ap (λ (x : ℕ). word == x) (sym same) ∙ differ in rw never at (eqb_refl word)

put_local_cases : (locals : ℕ → Option Cell) (local : ℕ) (cell : Cell) (word : ℕ) (c : Cell) → put_local locals local cell word ≡ Some c
    → ((word ≡ local) × (cell ≡ c)) ⊎ ((local ≡ word → ⊥) × (locals word ≡ Some c))
put_local_cases locals local cell word c found =
    ⊎_elim
    (λ (one : (word == local) ≡ true). inl (eqb-true word local one, same_Some cell c (rw one at found)))
    (λ (other : (word == local) ≡ false). inr (λ (same : local ≡ word). different word local same other, rw other at found))
    (cases_Bool (word == local))

word_stands : (set : Fact → Bool) (heap : List HeapObject) (at : Place) (cell : Cell) → Fits kind.Word cell → Stands set heap at cell
word_stands set heap at Int fits = tt
word_stands set heap at Null fits = absurd fits
word_stands set heap at (Object number) fits = absurd fits

-- ---- the memory, as the heap grows

pub IsFinalized-keep : (class : ObjectClass) (set : Fact → Bool) (old new : List HeapObject) (number : ℕ) → KeepsObjects old new → IsFinalized class set old number → IsFinalized class set new number
IsFinalized-keep class set old new number keeps h =
    let k = keeps.kept number h.object h.is_own.0 in
    record { object = k.0; is_own = (k.1, (h.is_own.1.0, h.is_own.1.1, k.2 ∙ h.is_own.1.2)); called = h.called }

-- ---- the instruction p of the frame f
module _ (class : ObjectClass) (set : Fact → Bool) (closed : IsClosed class set) (memory : Memory) (f : Frame) (below : List Frame) (p : Placed)
    (here : InstructionAt class f.method f.index p) (h : FrameStands class set memory.heap f) (waits : CallerWaits class set f.method below)
    (under : ThreadStands class set memory.heap below) (m : MemoryStands class set memory) where
  -- nothing of the memory changes, and no call is made
  quietly : (g : Frame) → g.method ≡ f.method → FrameStands class set memory.heap g → OutcomeStands class set (quiet memory g below)
  quietly g same stands = record { frames = (stands, subst (λ (x : ℕ). CallerWaits class set x below) (sym same) waits, under); memory = m; calls = tt }

  goes_where : (i : Instruction) → p.instruction ≡ i → (¬ IsReturn i) → ¬ IsReturn p.instruction
  goes_where i is not_return = rw is not_return

  -- no word is given
  nothing : (base k : ℕ) (cell : Cell) → slice_get [] k ≡ Some cell → InSlot class set memory.heap f.method (suc f.index) (OnStack (base + k)) cell
  nothing base k cell found = absurd (none-some cell found)

  -- one word is given
  single : (base : ℕ) (cell : Cell) → InSlot class set memory.heap f.method (suc f.index) (OnStack base) cell
      → (k : ℕ) (c : Cell) → slice_get (cell ∷ []) k ≡ Some c → InSlot class set memory.heap f.method (suc f.index) (OnStack (base + k)) c
  single base cell stands zero c found =
      let same : cell ≡ c = same_Some cell c found in
      let bottom : base + 0 ≡ base = omega arith in
      rw (bottom, ← same) stands
  single base cell stands (suc k) c found = absurd (none-some c found)

  -- the frame goes on, in words of the instruction i
  module _ (i : Instruction) (is : p.instruction ≡ i) (not_return : ¬ IsReturn i) (unwritten : (word : ℕ) → ¬ Writes i word) where
    frame_next : (rest words gives stack : List Cell) → f.stack ≡ rest ++ words → length words ≡ taken class i → length gives ≡ given class i → stack ≡ rest ++ gives
        → ((k : ℕ) (c : Cell) → slice_get gives k ≡ Some c → InSlot class set memory.heap f.method (suc f.index) (OnStack (length rest + k)) c)
        → FrameStands class set memory.heap (next f stack)
    frame_next rest words gives stack split takes as_many stack_is stands =
        rw stack_is
        (goes_on class set closed memory.heap f p here h (rw is not_return) rest words gives split (rw is takes) (rw is as_many) stands (rw is unwritten))

    -- a word is pushed
    push_next : (cell : Cell) → 0 ≡ taken class i → 1 ≡ given class i → InSlot class set memory.heap f.method (suc f.index) (OnStack (length f.stack)) cell
        → FrameStands class set memory.heap (next f (f.stack ++ cell ∷ []))
    push_next cell takes as_many stands =
        frame_next f.stack [] (cell ∷ []) (f.stack ++ cell ∷ []) (sym (append-nil f.stack)) takes as_many refl (single (length f.stack) cell stands)

    -- some words are taken
    pop_next : (rest words : List Cell) → f.stack ≡ rest ++ words → length words ≡ taken class i → 0 ≡ given class i → FrameStands class set memory.heap (next f rest)
    pop_next rest words split takes as_many = frame_next rest words [] rest split takes as_many (sym (append-nil rest)) (nothing (length rest))

    -- a word is given in the place of others
    change_next : (rest words : List Cell) (cell : Cell) → f.stack ≡ rest ++ words → length words ≡ taken class i → 1 ≡ given class i
        → InSlot class set memory.heap f.method (suc f.index) (OnStack (length rest)) cell → FrameStands class set memory.heap (next f (rest ++ cell ∷ []))
    change_next rest words cell split takes as_many stands =
        frame_next rest words (cell ∷ []) (rest ++ cell ∷ []) split takes as_many refl (single (length rest) cell stands)

  -- the word on top of the stack
  top_is : (rest : List Cell) (cell : Cell) → f.stack ≡ rest ++ cell ∷ [] → length rest + 1 ≡ depth_at class f.method f.index
  top_is rest cell split = omega (arith, h.depth, ap (λ (x : List Cell). length x) split, length-append rest (cell ∷ []))

  top_stands : (rest : List Cell) (cell : Cell) → f.stack ≡ rest ++ cell ∷ [] → Stands set memory.heap (slot_place f.method p.pc (OnStack (length rest))) cell
  top_stands rest cell split = on_stack class set closed memory.heap f p here h (length rest) cell (rw split (push_at rest cell))

  -- a load and a store
  load_reference : (local : ℕ) → p.instruction ≡ op.Load kind.Reference local → (cell : Cell) → f.locals local ≡ Some cell
      → FrameStands class set memory.heap (next f (f.stack ++ cell ∷ []))
  load_reference local is cell found =
      push_next (op.Load kind.Reference local) is (λ r. r) (λ word w. w) cell refl refl
      (rw h.depth
      (Stands-move set memory.heap _ _ cell
      (λ l. closed.move f.method f.index p (InLocal local) (OnStack (depth_at class f.method f.index)) l here (rw is (λ r. r), inr (rw is (refl, refl))))
      (at_pc class set closed memory.heap f p here h (InLocal local) cell (h.locals local cell found))))

  store : (k : Kind) (local : ℕ) → p.instruction ≡ op.Store k local → (rest : List Cell) (cell : Cell) → f.stack ≡ rest ++ cell ∷ []
      → InSlot class set memory.heap f.method (suc f.index) (InLocal local) cell → FrameStands class set memory.heap (next_stored f local cell rest)
  store k local is rest cell split stands =
      rw (← append-nil rest)
      (goes_on_with class set closed memory.heap f p here h (rw is (λ r. r)) rest (cell ∷ []) [] split (rw is refl) (rw is refl) (nothing (length rest))
      (put_local f.locals local cell)
      (λ word c found.
      ⊎_elim
      (λ written. rw (written.0, ← written.1) stands)
      (λ other. local_stays class set closed memory.heap f p here h (rw is (λ r. r)) word c (rw is other.0) other.1)
      (put_local_cases f.locals local cell word c found)))

  -- `dup`
  double : (base : ℕ) (cell : Cell) → InSlot class set memory.heap f.method (suc f.index) (OnStack base) cell
      → InSlot class set memory.heap f.method (suc f.index) (OnStack (base + 1)) cell
      → (k : ℕ) (c : Cell) → slice_get (cell ∷ cell ∷ []) k ≡ Some c → InSlot class set memory.heap f.method (suc f.index) (OnStack (base + k)) c
  double base cell first second zero c found = single base cell first zero c found
  double base cell first second (suc zero) c found = let same : cell ≡ c = same_Some cell c found in rw (← same) second
  double base cell first second (suc (suc k)) c found = absurd (none-some c found)

  dup : p.instruction ≡ op.Dup → (rest : List Cell) (cell : Cell) → f.stack ≡ rest ++ cell ∷ [] → FrameStands class set memory.heap (next f (rest ++ cell ∷ cell ∷ []))
  dup is rest cell split =
      let top = top_is rest cell split in
      frame_next op.Dup is (λ r. r) (λ word w. w) rest (cell ∷ []) (cell ∷ cell ∷ []) (rest ++ cell ∷ cell ∷ []) split refl refl refl
      (double (length rest) cell
      (Stands-move set memory.heap _ _ cell
      (λ l. closed.move f.method f.index p (OnStack (length rest)) (OnStack (length rest)) l here (rw is (λ r. r), inr (rw is (length rest, top, refl, inl refl))))
      (top_stands rest cell split))
      (Stands-move set memory.heap _ _ cell
      (λ l. closed.move f.method f.index p (OnStack (length rest)) (OnStack (length rest + 1)) l here (rw is (λ r. r), inr (rw is (length rest, top, refl, inr (ap OnStack top)))))
      (top_stands rest cell split)))

  -- static fields
  get_static : (field : ℕ) → p.instruction ≡ op.GetStatic field → FrameStands class set memory.heap (next f (f.stack ++ memory.statics field ∷ []))
  get_static field is =
      push_next (op.GetStatic field) is (λ r. r) (λ word w. w) (memory.statics field) refl refl
      (rw h.depth
      (Stands-move set memory.heap _ _ (memory.statics field) (λ l. closed.get_static f.method f.index p field l here is h.reached) (m.statics field)))

  put_static : (field : ℕ) → p.instruction ≡ op.PutStatic field → (rest : List Cell) (cell : Cell) → f.stack ≡ rest ++ cell ∷ []
      → OutcomeStands class set (quiet (record memory { statics = put memory.statics field cell }) (next f rest) below)
  put_static field is rest cell split = record {
    frames = (pop_next (op.PutStatic field) is (λ r. r) (λ word w. w) rest (cell ∷ []) split refl refl, waits, under);
    memory = record {
      statics = λ n.
          put_stands (λ c. Stands set memory.heap (place.Static (own_field n)) c) memory.statics field cell n
          (λ (same : n ≡ field).
          rw same
          (Stands-move set memory.heap _ _ cell (λ l. closed.put_static f.method f.index p field (length rest) l here is (top_is rest cell split)) (top_stands rest cell split)))
          (m.statics n);
      fields = m.fields;
      finalizable = m.finalizable;
    };
    calls = tt;
  }

  -- fields of objects
  get_field : (field : ℕ) → p.instruction ≡ op.GetField field → (rest : List Cell) (number : ℕ) (o : HeapObject) → f.stack ≡ rest ++ Object number ∷ []
      → IsOwnObject memory.heap number o → FrameStands class set memory.heap (next f (rest ++ o.fields field ∷ []))
  get_field field is rest number o split is_own =
      change_next (op.GetField field) is (λ r. r) (λ word w. w) rest (Object number ∷ []) (o.fields field) split refl refl
      (Stands-move set memory.heap _ _ (o.fields field)
      (λ l. closed.get_field f.method f.index p field (length rest) (new_at is_own.1.0 is_own.1.1) l here is (top_is rest (Object number) split)
      (own_label set memory.heap _ number o is_own (top_stands rest (Object number) split)))
      (m.fields number o is_own.1.0 is_own.1.1 field is_own.0 is_own.1.2))

  -- a field of the object that is written
  written_field : (field number : ℕ) (cell : Cell) (o : HeapObject) → (is_own : IsOwnObject memory.heap number o) → (n : ℕ) (x : HeapObject) (method pc other : ℕ) (heap : List HeapObject)
      → KeepsObjects memory.heap heap → Stands set memory.heap (place.Field (new_at is_own.1.0 is_own.1.1) (own_field field)) cell
      → n ≡ number → record o { fields = put o.fields field cell } ≡ x → x.making ≡ New method pc
      → Stands set heap (place.Field (new_at method pc) (own_field other)) (x.fields other)
  written_field field number cell o is_own n x method pc other heap keeps written same is made =
      let making : New is_own.1.0 is_own.1.1 ≡ New method pc = sym is_own.1.2 ∙ (ap (λ (y : HeapObject). y.making) is ∙ made) in
      let method_is : is_own.1.0 ≡ method = cc in
      let pc_is : is_own.1.1 ≡ pc = cc in
      let old_made : o.making ≡ New method pc = ap (λ (y : HeapObject). y.making) is ∙ made in
      let written_there : Stands set memory.heap (place.Field (new_at method pc) (own_field field)) cell = rw (method_is, pc_is) at written in
      Stands-keep set memory.heap heap _ (x.fields other) keeps
      (rw (← is)
      (put_stands (λ c. Stands set memory.heap (place.Field (new_at method pc) (own_field other)) c) o.fields field cell other
      (λ (one : other ≡ field). rw one written_there)
      (m.fields number o method pc other is_own.0 old_made)))

  put_field : (field : ℕ) → p.instruction ≡ op.PutField field → (rest : List Cell) (number : ℕ) (cell : Cell) (o : HeapObject) → f.stack ≡ rest ++ Object number ∷ cell ∷ []
      → IsOwnObject memory.heap number o
      → OutcomeStands class set (quiet (record memory { heap = slice_set memory.heap number (record o { fields = put o.fields field cell }) }) (next f rest) below)
  put_field field is rest number cell o split is_own =
      let after : HeapObject = record o { fields = put o.fields field cell } in
      let heap : List HeapObject = slice_set memory.heap number after in
      let keeps : KeepsObjects memory.heap heap = keeps_write memory.heap number o after is_own.0 refl in
      let depth : length rest + 2 ≡ depth_at class f.method f.index = omega (arith, h.depth, ap (λ (x : List Cell). length x) split, length-append rest (Object number ∷ cell ∷ [])) in
      let receiver : Stands set memory.heap (slot_place f.method p.pc (OnStack (length rest))) (Object number) =
      on_stack class set closed memory.heap f p here h (length rest) (Object number) (rw split (two_first rest (Object number) cell)) in
      let value : Stands set memory.heap (slot_place f.method p.pc (OnStack (length rest + 1))) cell =
      on_stack class set closed memory.heap f p here h (length rest + 1) cell (rw split (append_right rest (Object number ∷ cell ∷ []) 1)) in
      let written : Stands set memory.heap (place.Field (new_at is_own.1.0 is_own.1.1) (own_field field)) cell =
      Stands-move set memory.heap _ _ cell
      (λ l. closed.put_field f.method f.index p field (length rest) (new_at is_own.1.0 is_own.1.1) l here is depth (own_label set memory.heap _ number o is_own receiver))
      value in
      record {
        frames = (
          FrameStands-keep class set memory.heap heap (next f rest) keeps (pop_next (op.PutField field) is (λ r. r) (λ word w. w) rest (Object number ∷ cell ∷ []) split refl refl),
          waits,
          ThreadStands-keep class set memory.heap heap below keeps under,
        );
        memory = record {
          statics = λ n. Stands-keep set memory.heap heap _ (memory.statics n) keeps (m.statics n);
          fields = λ n x method pc other found made.
              ⊎_elim
              (λ old. Stands-keep set memory.heap heap _ (x.fields other) keeps (m.fields n x method pc other old made))
              (λ new. written_field field number cell o is_own n x method pc other heap keeps written new.0 new.1 made)
              (set_cases memory.heap number after n x found);
          finalizable = λ n found. IsFinalized-keep class set memory.heap heap n keeps (m.finalizable n found);
        };
        calls = tt;
      }
    where
      two_first : (xs : List Cell) (a b : Cell) → slice_get (xs ++ a ∷ b ∷ []) (length xs) ≡ Some a
      two_first xs a b = let e : length xs + 0 ≡ length xs = omega arith in rw e at (append_right xs (a ∷ b ∷ []) 0)

  -- the constructor of java/lang/Object
  object_init_stands : p.instruction ≡ op.InvokeObjectInit → (rest : List Cell) (number : ℕ) (o : HeapObject) → f.stack ≡ rest ++ Object number ∷ [] → IsOwnObject memory.heap number o
      → OutcomeStands class set (record {
        calls = record { origin = Site f.method p.pc; target = ObjectInit } ∷ [];
        memory = record memory { finalizable = number ∷ memory.finalizable };
        frames = next f rest ∷ below;
      })
  object_init_stands is rest number o split is_own =
      let top = top_is rest (Object number) split in
      let label = own_label set memory.heap _ number o is_own (top_stands rest (Object number) split) in
      record {
        frames = (pop_next op.InvokeObjectInit is (λ r. r) (λ word w. w) rest (Object number ∷ []) split refl refl, waits, under);
        memory = record {
          statics = m.statics;
          fields = m.fields;
          finalizable = λ n found.
              ⊎_elim
              (λ (same : number ≡ n). rw (← same) (record { object = o; is_own = is_own; called = λ to fin. closed.finalize f.method f.index p (length rest) _ to here is top fin label }))
              (λ (other : number ≡ n → ⊥). m.finalizable n (Contains-tail number memory.finalizable n other found))
              (cases_eq number n);
        };
        calls = (closed.initialize f.method f.index p (length rest) _ here is top label, tt);
      }

  -- `new`
  new_stands : p.instruction ≡ op.New
      → OutcomeStands class set (quiet (record memory { heap = memory.heap ++ record { making = New f.method p.pc; fields = zero_field class } ∷ [] })
      (next f (f.stack ++ Object (length memory.heap) ∷ [])) below)
  new_stands is =
      let made : HeapObject = record { making = New f.method p.pc; fields = zero_field class } in
      let heap : List HeapObject = memory.heap ++ made ∷ [] in
      let keeps : KeepsObjects memory.heap heap = keeps_push memory.heap made in
      let fact = closed.allocate f.method f.index p here is h.reached in
      record {
        frames = (pushed heap keeps (record { object = made; is = push_at memory.heap made; stands = rw h.depth fact }), waits, ThreadStands-keep class set memory.heap heap below keeps under);
        memory = record {
          statics = λ n. Stands-keep set memory.heap heap _ (memory.statics n) keeps (m.statics n);
          fields = λ n x method pc other found has.
              ⊎_elim
              (λ old. Stands-keep set memory.heap heap _ (x.fields other) keeps (m.fields n x method pc other old has))
              (λ new. rw (← new.1) (zero_stands class set heap _ other))
              (push_cases memory.heap made n x found);
          finalizable = λ n found. IsFinalized-keep class set memory.heap heap n keeps (m.finalizable n found);
        };
        calls = tt;
      }
    where
      pushed : (heap : List HeapObject) → KeepsObjects memory.heap heap
          → InSlot class set heap f.method (suc f.index) (OnStack (length f.stack)) (Object (length memory.heap))
          → FrameStands class set heap (next f (f.stack ++ Object (length memory.heap) ∷ []))
      pushed heap keeps stands =
          goes_on class set closed heap f p here (FrameStands-keep class set memory.heap heap f keeps h) (rw is (λ r. r)) f.stack [] (Object (length memory.heap) ∷ [])
          (sym (append-nil f.stack)) (rw is refl) (rw is refl) (one_given heap (length f.stack) stands) (rw is (λ word w. w))
        where
          one_given : (heap : List HeapObject) (base : ℕ) → InSlot class set heap f.method (suc f.index) (OnStack base) (Object (length memory.heap))
              → (k : ℕ) (c : Cell) → slice_get (Object (length memory.heap) ∷ []) k ≡ Some c → InSlot class set heap f.method (suc f.index) (OnStack (base + k)) c
          one_given heap base stands zero c found =
              let same : Object (length memory.heap) ≡ c = same_Some _ c found in
              let bottom : base + 0 ≡ base = omega arith in
              rw (bottom, ← same) stands
          one_given heap base stands (suc k) c found = absurd (none-some c found)

  -- a call of a method on words that stand on the stack, of which the first ones that aren't arguments stand in its locals
  call_stands : (to : ℕ) → Invokes p.instruction to → (x : Method) (rest words : List Cell) → slice_get class.methods to ≡ Some x → f.stack ≡ rest ++ words
      → AllZip Fits x.arguments words → Has set (Edge (from.Site (own f.method) p.pc) (own to))
      → ((word : ℕ) (cell : Cell) → word < first_argument p.instruction → slice_get words word ≡ Some cell → InSlot class set memory.heap to 0 (InLocal word) cell)
      → OutcomeStands class set (record {
        calls = record { origin = Site f.method p.pc; target = Own to } ∷ [];
        memory = memory;
        frames = enter to words ∷ f ∷ below;
      })
  call_stands to invokes x rest words at_x split fits edge receiver =
      let taken_is : taken class p.instruction ≡ length words = invokes_taken class p.instruction to invokes ∙ (argument_count-is class to x at_x ∙ sym (AllZip-long Fits x.arguments words fits)) in
      let base : length rest + taken class p.instruction ≡ depth_at class f.method f.index = omega (arith, taken_is, h.depth, ap (λ (y : List Cell). length y) split, length-append rest words) in
      record {
        frames = (
          enters class set memory.heap to words
              (λ word cell found.
              ⊎_elim
              (λ (early : word < first_argument p.instruction). receiver word cell early found)
              (λ (late : first_argument p.instruction ≤ word).
              let within : word < length words = slice_get_within words word cell found in
              let below_taken : word < taken class p.instruction = omega arith in
              Stands-move set memory.heap _ _ cell
              (λ l. closed.argument f.method f.index p to (length rest) word l here invokes base late below_taken edge)
              (on_stack class set closed memory.heap f p here h (length rest + word) cell (rw split (append_right rest words word ∙ found))))
              (cases_lt word (first_argument p.instruction)))
              (closed.reach (from.Site (own f.method) p.pc) to edge),
          record { p = p; at = here; invokes = invokes; edge = edge },
          (h, waits, under),
        );
        memory = m;
        calls = (edge, tt);
      }

  static_call : (to : ℕ) → p.instruction ≡ op.InvokeStatic to → (words : List Cell) (out : Outcome) → Calls class memory f p.pc below to words out → OutcomeStands class set out
  static_call to is words out calls =
      rw calls.5
      (call_stands to (rw is refl) calls.0 calls.1 words calls.2 calls.3 calls.4 (closed.dispatch_static f.method f.index p to here is h.reached)
      (λ word cell early found. let none : word < 0 = rw is at early in absurd (omega arith)))

  send : (to : ℕ) → SendsTo p.instruction to → first_argument p.instruction ≡ 1 → (out : Outcome) → Sends class memory f p.pc below to out → OutcomeStands class set out
  send to sends first out sent =
      let number : ℕ = sent.0 in
      let o : HeapObject = sent.1 in
      let is_own = sent.3 in
      let calls = sent.4 in
      let words : List Cell = Object number ∷ sent.2 in
      let x : Method = calls.0 in
      let rest : List Cell = calls.1 in
      let invokes = sends_invokes p.instruction to sends in
      let taken_is : taken class p.instruction ≡ length words = invokes_taken class p.instruction to invokes ∙ (argument_count-is class to x calls.2 ∙ sym (AllZip-long Fits x.arguments words calls.4)) in
      let base : length rest + taken class p.instruction ≡ depth_at class f.method f.index = omega (arith, taken_is, h.depth, ap (λ (y : List Cell). length y) calls.3, length-append rest words) in
      let receiver : Stands set memory.heap (slot_place f.method p.pc (OnStack (length rest))) (Object number) =
      on_stack class set closed memory.heap f p here h (length rest) (Object number) (rw calls.3 (receiver_at rest number sent.2)) in
      let selected = λ (l : Label). closed.dispatch f.method f.index p to (length rest) l here sends base in
      let edge = (selected (new_at is_own.1.0 is_own.1.1) (own_label set memory.heap _ number o is_own receiver)).0 in
      rw calls.5
      (call_stands to invokes x rest words calls.2 calls.3 calls.4 edge
      (λ word cell early found.
      let one : word < 1 = rw first at early in
      let bottom : word ≡ 0 = omega arith in
      let same : Object number ≡ cell = same_Some (Object number) cell (rw bottom at found) in
      rw (bottom, ← same) (Stands-move set memory.heap _ _ (Object number) (λ l has. (selected l has).1) receiver)))
    where
      receiver_at : (xs : List Cell) (n : ℕ) (ys : List Cell) → slice_get (xs ++ Object n ∷ ys) (length xs) ≡ Some (Object n)
      receiver_at xs n ys = let e : length xs + 0 ≡ length xs = omega arith in rw e at (append_right xs (Object n ∷ ys) 0)

  -- a return, by the method of the frame: what stands on top of its stack stands where the caller goes on
  module _ (safe : IsKindSafe class) (result : Option Kind) (is : p.instruction ≡ op.Return result) (rest words : List Cell) (split : f.stack ≡ rest ++ words) (fits : AllZip Fits (result_kinds result) words) where
    -- the words that are returned stand at the place behind a call
    returned : (g : Frame) (waiting : Waits class set g f.method) (base : ℕ) → base + taken class waiting.p.instruction ≡ depth_at class g.method g.index
        → (k : ℕ) (cell : Cell) → slice_get words k ≡ Some cell → InSlot class set memory.heap g.method (suc g.index) (OnStack (base + k)) cell
    returned g waiting base depth k cell found = by_kind result (return_fits class safe f.method f.index p result here is) is words split fits k cell found
      where
        by_kind : (r : Option Kind) → here.0.result ≡ r → p.instruction ≡ op.Return r → (ws : List Cell) → f.stack ≡ rest ++ ws → AllZip Fits (result_kinds r) ws → (k : ℕ) (cell : Cell) → slice_get ws k ≡ Some cell
            → InSlot class set memory.heap g.method (suc g.index) (OnStack (base + k)) cell
        by_kind None has is_return [] s fit k cell found = absurd (none-some cell found)
        by_kind None has is_return (w ∷ ws) s fit k cell found = absurd fit
        by_kind (Some x) has is_return [] s fit k cell found = absurd fit
        by_kind (Some x) has is_return (w ∷ v ∷ ws) s fit k cell found = absurd fit.1
        by_kind (Some kind.Word) has is_return (w ∷ []) s fit zero cell found =
            let same : w ≡ cell = same_Some w cell found in
            word_stands set memory.heap _ cell (rw (← same) fit.0)
        by_kind (Some kind.Word) has is_return (w ∷ []) s fit (suc k) cell found = absurd (none-some cell found)
        by_kind (Some kind.Reference) has is_return (w ∷ []) s fit zero cell found =
            let same : w ≡ cell = same_Some w cell found in
            let bottom : base + 0 ≡ base = omega arith in
            rw (bottom, ← same)
            (Stands-move set memory.heap _ _ w
            (λ l top_has.
            closed.return_to g.method g.index waiting.p f.method base l waiting.at waiting.invokes (here.0, here.1, has) depth waiting.edge
            (closed.return_from f.method f.index p (length rest) l here is_return (top_is rest w s) top_has))
            (top_stands rest w s))
        by_kind (Some kind.Reference) has is_return (w ∷ []) s fit (suc k) cell found = absurd (none-some cell found)

    length_given : length words ≡ kind_count result
    length_given = AllZip-long Fits (result_kinds result) words fits ∙ kinds_are result
      where
        kinds_are : (r : Option Kind) → length (result_kinds r) ≡ kind_count r
        kinds_are None = refl
        kinds_are (Some k) = refl

    -- the frames that are left
    goes_back : (frames after : List Frame) → CallerWaits class set f.method frames → ThreadStands class set memory.heap frames → GoesBack class frames words after
        → ThreadStands class set memory.heap after
    goes_back [] after waiting stands back = rw back tt
    goes_back (g ∷ frames) after waiting stands (q, to, g_rest, g_words, at_q, invokes, g_split, counted, after_is) =
        let one : waiting.p ≡ q = one_instruction class g.method g.index waiting.p q waiting.at at_q in
        let waits_invokes : Invokes q.instruction f.method = rw one at waiting.invokes in
        let same : to ≡ f.method = invokes_one q.instruction to f.method invokes waits_invokes in
        let takes : length g_words ≡ taken class waiting.p.instruction =
        counted ∙ (sym (invokes_taken class q.instruction to invokes) ∙ ap (λ (x : Placed). taken class x.instruction) (sym one)) in
        let gives : length words ≡ given class waiting.p.instruction =
        length_given ∙ (ap kind_count (sym (return_fits class safe f.method f.index p result here is)) ∙ (sym (result_count-is class f.method here.0 here.1) ∙ sym (invokes_given class waiting.p.instruction f.method waiting.invokes))) in
        let base : length g_rest + taken class waiting.p.instruction ≡ depth_at class g.method g.index = omega (arith, takes, stands.0.depth, ap (λ (y : List Cell). length y) g_split, length-append g_rest g_words) in
        rw after_is (
          goes_on class set closed memory.heap g waiting.p waiting.at stands.0 (invokes_goes waiting.p.instruction f.method waiting.invokes) g_rest g_words words g_split takes gives
              (returned g waiting (length g_rest) base) (invokes_writes waiting.p.instruction f.method waiting.invokes),
          stands.1,
          stands.2,
        )

  return_stands : IsKindSafe class → (result : Option Kind) → p.instruction ≡ op.Return result → (out : Outcome) → Does class (op.Return result) p.pc memory f below out → OutcomeStands class set out
  return_stands safe result is out (rest, words, split, fits, left) =
      rw left.2 (record { frames = goes_back safe result is rest words split fits below left.0 waits under left.1; memory = m; calls = tt })

  -- whatever the instruction is
  pub does_stand : IsKindSafe class → (i : Instruction) → p.instruction ≡ i → (out : Outcome) → Does class i p.pc memory f below out → OutcomeStands class set out
  does_stand safe op.Nop is out does =
      rw does (quietly (next f f.stack) refl (pop_next op.Nop is (λ r. r) (λ word w. w) f.stack [] (sym (append-nil f.stack)) refl refl))
  does_stand safe op.PushNull is out does = rw does (quietly _ refl (push_next op.PushNull is (λ r. r) (λ word w. w) Null refl refl tt))
  does_stand safe op.PushWord is out does = rw does (quietly _ refl (push_next op.PushWord is (λ r. r) (λ word w. w) Int refl refl tt))
  does_stand safe (op.Load kind.Word local) is out (cell, found, fits, out_is) =
      rw out_is (quietly _ refl (push_next (op.Load kind.Word local) is (λ r. r) (λ word w. w) cell refl refl (word_stands set memory.heap _ cell fits)))
  does_stand safe (op.Load kind.Reference local) is out (cell, found, fits, out_is) = rw out_is (quietly _ refl (load_reference local is cell found))
  does_stand safe (op.Store kind.Word local) is out (rest, cell, split, fits, out_is) =
      rw out_is (quietly _ refl (store kind.Word local is rest cell split (word_stands set memory.heap _ cell fits)))
  does_stand safe (op.Store kind.Reference local) is out (rest, cell, split, fits, out_is) =
      rw out_is
      (quietly _ refl
      (store kind.Reference local is rest cell split
      (Stands-move set memory.heap _ _ cell
      (λ l. closed.move f.method f.index p (OnStack (length rest)) (InLocal local) l here (rw is (λ r. r), inr (rw is (length rest, top_is rest cell split, refl, refl))))
      (top_stands rest cell split))))
  does_stand safe op.Pop is out (rest, cell, split, out_is) =
      rw out_is (quietly _ refl (pop_next op.Pop is (λ r. r) (λ word w. w) rest (cell ∷ []) split refl refl))
  does_stand safe op.Dup is out (rest, cell, split, out_is) = rw out_is (quietly _ refl (dup is rest cell split))
  does_stand safe op.Combine is out (rest, split, out_is) =
      rw out_is (quietly _ refl (change_next op.Combine is (λ r. r) (λ word w. w) rest (Int ∷ Int ∷ []) Int split refl refl tt))
  does_stand safe op.Negate is out (rest, split, out_is) =
      rw out_is (quietly _ refl (change_next op.Negate is (λ r. r) (λ word w. w) rest (Int ∷ []) Int split refl refl tt))
  does_stand safe (op.GetStatic field) is out does = rw does (quietly _ refl (get_static field is))
  does_stand safe (op.PutStatic field) is out (rest, cell, split, fits, out_is) = rw out_is (put_static field is rest cell split)
  does_stand safe (op.GetField field) is out (rest, number, o, split, is_own, out_is) = rw out_is (quietly _ refl (get_field field is rest number o split is_own))
  does_stand safe (op.PutField field) is out (rest, number, cell, o, split, is_own, fits, out_is) = rw out_is (put_field field is rest number cell o split is_own)
  does_stand safe (op.InvokeVirtual to) is out does = send to (rw is refl) (rw is refl) out does
  does_stand safe (op.InvokeSpecial to) is out does = send to (rw is refl) (rw is refl) out does
  does_stand safe op.InvokeObjectInit is out (rest, number, o, split, is_own, out_is) = rw out_is (object_init_stands is rest number o split is_own)
  does_stand safe (op.InvokeStatic to) is out (words, calls) = static_call to is words out calls
  does_stand safe op.New is out does = rw does (new_stands is)
  does_stand safe (op.Return result) is out does = return_stands safe result is out does
