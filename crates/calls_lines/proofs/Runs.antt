-- Lines of closed facts cover every run.
use Rattle.std.proofs.Common.{◌≡◌, ℕ, Bool, true, List, [], ◌∷◌, ◌++◌, Contains, refl, inl, inr}
use Rattle.std.specs.Prelude.{codes, is_some}
use Rattle.std.specs.List.{slice_get}
use Rattle.std.specs.Fmt.{decimal}
use Rattle.std.proofs.lemmas.Bool.{false≢true}
use Rattle.jv_types.specs.declared.place.Place.{Place}
use Rattle.jv_types.specs.declared.fact.Fact.{Fact}
use Rattle.jv_types.specs.declared.fact.Fact.TheVariants.{Edge, Pt}
use Rattle.calls_form.specs.declared.object_class.ObjectClass.{ObjectClass}
use Rattle.calls_form.specs.Kinds.{IsKindSafe}
use Rattle.calls_model.specs.First.Machine.{Cell, HeapObject, Frame, State, Origin, Library, Site, Target, Own, ObjectInit, MethodCall}
use Rattle.calls_facts.specs.First.Names.{new_at, Slot, InLocal, OnStack, slot_place, pc_at}
use Rattle.calls_facts.specs.First.Rules.{Has, IsClosed}
use Rattle.calls_facts.specs.First.Covered.{origin_of, target_of, call_fact, CallsCovered, CellCovered, FrameCovered, IsCovered}
use Rattle.calls_facts.specs.First.Closing.{IsLeastList}
use Rattle.calls_facts.proofs.Runs.{covers}
use Rattle.calls_lines.specs.First.Lines.{HasLine, HasPlaceText, AreLines}
use Rattle.calls_lines.specs.First.Covered.{IsTold, CallsHaveLines, CellHasLine, FrameHasLines, HeldObjectsHaveLines, LinesCoverAllRuns, AreClassLines}
use Rattle.calls_lines.proofs.Adding.{AreLines-same}
use Rattle.calls_lines.proofs.Told.{told, has_place, both_first, both_second, told_closed, method_text_of, label_text_of, slot_text_of, static_text_of, object_field_text_of}

-- ---- the lines of facts that are told of

abbrev Line : ObjectClass → Fact → Type 0
Line class fact = (line : List ℕ) × HasLine class fact line

-- a call
edge_line_of : (class : ObjectClass) (origin : Origin) (target : Target) → Has (told class) (Edge (origin_of origin) (target_of target)) → Line class (Edge (origin_of origin) (target_of target))
edge_line_of class Library (Own to) h = let t = method_text_of class to h in (codes "edge library " ++ t.0, (t.0, t.1, refl))
edge_line_of class Library ObjectInit h = absurd (false≢true h)
edge_line_of class (Site m pc) (Own to) h =
    let f = method_text_of class m (both_first (is_some (slice_get class.methods m)) (is_some (slice_get class.methods to)) h) in
    let t = method_text_of class to (both_second (is_some (slice_get class.methods m)) (is_some (slice_get class.methods to)) h) in
    let s : List ℕ = f.0 ++ codes " " ++ decimal pc in
    (codes "edge " ++ s ++ codes " " ++ t.0, (s, t.0, (f.0, f.1, refl), inl t.1, refl))
edge_line_of class (Site m pc) ObjectInit h =
    let f = method_text_of class m (both_first (is_some (slice_get class.methods m)) true h) in
    let s : List ℕ = f.0 ++ codes " " ++ decimal pc in
    (codes "edge " ++ s ++ codes " " ++ codes "library", (s, codes "library", (f.0, f.1, refl), inr (refl, refl), refl))

-- an object at a place that has a text
point_line_of : (class : ObjectClass) (at : Place) (m pc : ℕ) → (has_place class at ≡ true → (text : List ℕ) × HasPlaceText class at text)
    → Has (told class) (Pt at (new_at m pc)) → Line class (Pt at (new_at m pc))
point_line_of class at m pc text_of h =
    let p = text_of (both_first (has_place class at) (is_some (slice_get class.methods m)) h) in
    let l = label_text_of class m pc (both_second (has_place class at) (is_some (slice_get class.methods m)) h) in
    (codes "pt " ++ p.0 ++ codes " " ++ l.0, (p.0, l.0, p.1, l.1, refl))

slot_text : (class : ObjectClass) (m pc : ℕ) (slot : Slot) → has_place class (slot_place m pc slot) ≡ true → (text : List ℕ) × HasPlaceText class (slot_place m pc slot) text
slot_text class m pc (InLocal word) h = slot_text_of class m pc (InLocal word) h
slot_text class m pc (OnStack word) h = slot_text_of class m pc (OnStack word) h

-- ---- runs

module _ (class : ObjectClass) (set : Fact → Bool) (lines : List (List ℕ)) (are : AreLines class (Has set) lines) where
  -- a fact of the set that has a line
  told_of : (fact : Fact) → Has set fact → Line class fact → IsTold class lines fact
  told_of fact has line = (line.0, line.1, (are.exact line.0).1 (fact, has, line.1))

  calls_have : (calls : List MethodCall) → CallsCovered set calls → CallsCovered (told class) calls → CallsHaveLines class lines calls
  calls_have [] in_set in_told = tt
  calls_have (call ∷ calls) in_set in_told =
      (told_of (call_fact call) in_set.0 (edge_line_of class call.origin call.target in_told.0), calls_have calls in_set.1 in_told.1)

  cell_has : (heap : List HeapObject) (at : Place) (cell : Cell) → (has_place class at ≡ true → (text : List ℕ) × HasPlaceText class at text)
      → CellCovered set heap at cell → CellCovered (told class) heap at cell → CellHasLine class lines heap at cell
  cell_has heap at cell text_of in_set in_told number o method pc is at_number made =
      told_of (Pt at (new_at method pc)) (in_set number o method pc is at_number made)
      (point_line_of class at method pc text_of (in_told number o method pc is at_number made))

  frame_has : (heap : List HeapObject) (f : Frame) → FrameCovered class set heap f → FrameCovered class (told class) heap f → FrameHasLines class lines heap f
  frame_has heap f in_set in_told = record {
    locals = λ word cell found. cell_has heap _ cell (slot_text class f.method (pc_at class f.method f.index) (InLocal word)) (in_set.locals word cell found) (in_told.locals word cell found);
    stack = λ word cell found. cell_has heap _ cell (slot_text class f.method (pc_at class f.method f.index) (OnStack word)) (in_set.stack word cell found) (in_told.stack word cell found);
  }

  held_have : (s : State) → IsCovered class set s → IsCovered class (told class) s → HeldObjectsHaveLines class lines s
  held_have s in_set in_told = record {
    frames = λ thread frames f at_thread has. frame_has s.memory.heap f (in_set.frames thread frames f at_thread has) (in_told.frames thread frames f at_thread has);
    statics = λ field. cell_has s.memory.heap _ (s.memory.statics field) (static_text_of class field) (in_set.statics field) (in_told.statics field);
    fields = λ number o method pc field found made.
        cell_has s.memory.heap _ (o.fields field)
        (λ h. object_field_text_of class method pc field (both_first (is_some (slice_get class.methods method)) (is_some (slice_get class.fields field)) h)
        (both_second (is_some (slice_get class.methods method)) (is_some (slice_get class.fields field)) h))
        (in_set.fields number o method pc field found made) (in_told.fields number o method pc field found made);
  }

  pub lines_cover : IsKindSafe class → IsClosed class set → LinesCoverAllRuns class lines
  lines_cover safe closed events calls end run =
      let in_set = covers class set closed safe events calls end run in
      let in_told = covers class (told class) (told_closed class safe) safe events calls end run in
      (calls_have calls in_set.0 in_told.0, held_have end in_set.1 in_told.1)

-- the lines of the least facts
pub AreClassLines-least : (class : ObjectClass) (facts : List Fact) (lines : List (List ℕ)) → IsKindSafe class → IsLeastList class facts → AreLines class (Contains facts) lines → AreClassLines class lines
AreClassLines-least class facts lines safe least are =
    let are_set : AreLines class (Has least.set) lines = AreLines-same class (Contains facts) (Has least.set) lines (λ fact. ((least.same fact).1, (least.same fact).0)) are in
    record {
      set = least.set;
      least = least.least;
      are_lines = are_set;
      covers = lines_cover class least.set lines are_set safe least.least.closed;
    }
