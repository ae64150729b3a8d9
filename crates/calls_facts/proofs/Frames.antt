-- Frames whose words have their facts: going on, being entered, and in a heap that grows.
use Rattle.std.proofs.Common.{◌≡◌, ℕ, zero, suc, ◌+◌, ◌-◌, ◌<◌, ◌≤◌, ◌⊎◌, Bool, List, [], ◌∷◌, ◌++◌, length, Option, Some, None, refl, sym, ap, ◌∙◌, inl, inr, ⊎_elim, arith, length-append}
use Rattle.std.specs.List.{slice_get}
use Rattle.std.proofs.lemmas.Option.{slice_get_within, none-some}
use Rattle.jv_types.specs.declared.label.Label.{Label}
use Rattle.jv_types.specs.declared.fact.CallFrom.TheVariants as from
use Rattle.jv_types.specs.declared.fact.Fact.{Fact}
use Rattle.jv_types.specs.declared.fact.Fact.TheVariants.{Reach, Edge, Pt}
use Rattle.calls_form.specs.declared.object_class.Placed.{Placed}
use Rattle.calls_form.specs.declared.object_class.ObjectClass.{ObjectClass}
use Rattle.calls_model.specs.First.Machine.{Cell, HeapObject, Frame, InstructionAt, Invokes, enter}
use Rattle.calls_model.specs.First.Keeping.{KeepsObjects}
use Rattle.calls_model.proofs.Lists.{append_left, append_cases}
use Rattle.calls_facts.specs.First.Depths.{taken, given, depth_at}
use Rattle.calls_facts.specs.First.Names.{own, Slot, InLocal, OnStack, slot_place, pc_at}
use Rattle.calls_facts.specs.First.Rules.{Has, IsReturn, Writes, IsClosed}
use Rattle.calls_facts.proofs.Standing.{Stands, Stands-move, Stands-keep}
use Rattle.calls_facts.proofs.Offsets.{pc_at-is, depth_at-zero, depth_at-next}

-- the cell stands in this word of the frame's method, before the instruction at an index
abbrev pub InSlot : ObjectClass → (Fact → Bool) → List HeapObject → ℕ → ℕ → Slot → Cell → Type 0
InSlot class set heap m i slot cell = Stands set heap (slot_place m (pc_at class m i) slot) cell

-- the words of a frame have their facts, as many stand on its stack as before its instruction, and its
-- method is entered
pub record FrameStands (class : ObjectClass) (set : Fact → Bool) (heap : List HeapObject) (f : Frame) : Type 0 where
  pub locals : (word : ℕ) (cell : Cell) → f.locals word ≡ Some cell → InSlot class set heap f.method f.index (InLocal word) cell
  pub stack : (word : ℕ) (cell : Cell) → slice_get f.stack word ≡ Some cell → InSlot class set heap f.method f.index (OnStack word) cell
  pub depth : length f.stack ≡ depth_at class f.method f.index
  pub reached : Has set (Reach (own f.method))

-- the frame waits at a call of the method at this place, whose edge is there
pub record Waits (class : ObjectClass) (set : Fact → Bool) (f : Frame) (callee : ℕ) : Type 0 where
  pub p : Placed
  pub at : InstructionAt class f.method f.index p
  pub invokes : Invokes p.instruction callee
  pub edge : Has set (Edge (from.Site (own f.method) p.pc) (own callee))

-- the last of these frames, if there is one, waits at a call of this method
abbrev pub CallerWaits : ObjectClass → (Fact → Bool) → ℕ → List Frame → Type 0
CallerWaits class set callee [] = Unit {0}
CallerWaits class set callee (g ∷ below) = Waits class set g callee

-- the frames of a thread
abbrev pub ThreadStands : ObjectClass → (Fact → Bool) → List HeapObject → List Frame → Type 0
ThreadStands class set heap [] = Unit {0}
ThreadStands class set heap (f ∷ below) = FrameStands class set heap f × CallerWaits class set f.method below × ThreadStands class set heap below

pub FrameStands-keep : (class : ObjectClass) (set : Fact → Bool) (old new : List HeapObject) (f : Frame) → KeepsObjects old new → FrameStands class set old f → FrameStands class set new f
FrameStands-keep class set old new f keeps h = record {
  locals = λ word cell is. Stands-keep set old new _ cell keeps (h.locals word cell is);
  stack = λ word cell is. Stands-keep set old new _ cell keeps (h.stack word cell is);
  depth = h.depth;
  reached = h.reached;
}

pub ThreadStands-keep : (class : ObjectClass) (set : Fact → Bool) (old new : List HeapObject) (frames : List Frame) → KeepsObjects old new → ThreadStands class set old frames → ThreadStands class set new frames
ThreadStands-keep class set old new [] keeps h = tt
ThreadStands-keep class set old new (f ∷ below) keeps h =
    (FrameStands-keep class set old new f keeps h.0, h.1, ThreadStands-keep class set old new below keeps h.2)

-- the instruction p of the frame f
module _ (class : ObjectClass) (set : Fact → Bool) (closed : IsClosed class set) (heap : List HeapObject) (f : Frame) (p : Placed) (here : InstructionAt class f.method f.index p) (h : FrameStands class set heap f) where
  -- a word of the frame, at the offset of the instruction
  pub at_pc : (slot : Slot) (cell : Cell) → InSlot class set heap f.method f.index slot cell → Stands set heap (slot_place f.method p.pc slot) cell
  at_pc slot cell stands = rw (pc_at-is class f.method f.index p here) at stands

  -- a word on the stack
  pub on_stack : (word : ℕ) (cell : Cell) → slice_get f.stack word ≡ Some cell → Stands set heap (slot_place f.method p.pc (OnStack word)) cell
  on_stack word cell is = at_pc (OnStack word) cell (h.stack word cell is)

  -- the words that the instruction leaves alone
  pub local_stays : ¬ IsReturn p.instruction → (word : ℕ) (cell : Cell) → ¬ Writes p.instruction word → f.locals word ≡ Some cell
      → InSlot class set heap f.method (suc f.index) (InLocal word) cell
  local_stays goes word cell unwritten is =
      Stands-move set heap _ _ cell
      (λ l. closed.move f.method f.index p (InLocal word) (InLocal word) l here (goes, inl (unwritten, refl)))
      (at_pc (InLocal word) cell (h.locals word cell is))

  stack_stays : ¬ IsReturn p.instruction → (word : ℕ) (cell : Cell) → word + taken class p.instruction < depth_at class f.method f.index → slice_get f.stack word ≡ Some cell
      → InSlot class set heap f.method (suc f.index) (OnStack word) cell
  stack_stays goes word cell under is =
      Stands-move set heap _ _ cell
      (λ l. closed.move f.method f.index p (OnStack word) (OnStack word) l here (goes, inl (under, refl)))
      (on_stack word cell is)

  -- the frame goes on to the next instruction: it took some words from the stack, and gives others that stand there
  module _ (goes : ¬ IsReturn p.instruction) (rest words gives : List Cell) (is : f.stack ≡ rest ++ words) (takes : length words ≡ taken class p.instruction) (as_many : length gives ≡ given class p.instruction)
      (stands : (k : ℕ) (cell : Cell) → slice_get gives k ≡ Some cell → InSlot class set heap f.method (suc f.index) (OnStack (length rest + k)) cell) where
    base_is : length rest + taken class p.instruction ≡ depth_at class f.method f.index
    base_is = omega (arith, h.depth, takes, ap (λ (x : List Cell). length x) is, length-append rest words)

    stack_goes_on : (word : ℕ) (cell : Cell) → slice_get (rest ++ gives) word ≡ Some cell → InSlot class set heap f.method (suc f.index) (OnStack word) cell
    stack_goes_on word cell found =
        ⊎_elim
        (λ (old : slice_get rest word ≡ Some cell).
        let within : word < length rest = slice_get_within rest word cell old in
        let base : length rest + taken class p.instruction ≡ depth_at class f.method f.index = base_is in
        stack_stays goes word cell (omega arith) (rw is (append_left rest words word cell old)))
        (λ new. rw new.1 (stands new.0 cell new.2))
        (append_cases rest gives word cell found)

    depth_goes_on : length (rest ++ gives) ≡ depth_at class f.method (suc f.index)
    depth_goes_on =
        let base : length rest + taken class p.instruction ≡ depth_at class f.method f.index = base_is in
        let after = depth_at-next class f.method f.index p here in
        omega (arith, after, as_many, length-append rest gives)

    -- with locals that stand there
    pub goes_on_with : (locals : ℕ → Option Cell) → ((word : ℕ) (cell : Cell) → locals word ≡ Some cell → InSlot class set heap f.method (suc f.index) (InLocal word) cell)
        → FrameStands class set heap (record { method = f.method; index = suc f.index; locals = locals; stack = rest ++ gives })
    goes_on_with locals in_locals = record { locals = in_locals; stack = stack_goes_on; depth = depth_goes_on; reached = h.reached }

    -- with the same locals
    pub goes_on : ((word : ℕ) → ¬ Writes p.instruction word)
        → FrameStands class set heap (record { method = f.method; index = suc f.index; locals = f.locals; stack = rest ++ gives })
    goes_on unwritten = goes_on_with f.locals (λ word cell found. local_stays goes word cell (unwritten word) found)

-- a method that is entered on words that stand in its locals
pub enters : (class : ObjectClass) (set : Fact → Bool) (heap : List HeapObject) (place : ℕ) (words : List Cell)
    → ((word : ℕ) (cell : Cell) → slice_get words word ≡ Some cell → InSlot class set heap place 0 (InLocal word) cell) → Has set (Reach (own place))
    → FrameStands class set heap (enter place words)
enters class set heap place words stands reached = record {
  locals = stands;
  stack = λ word cell found. absurd (none-some cell found);
  depth = sym (depth_at-zero class place);
  reached = reached;
}
