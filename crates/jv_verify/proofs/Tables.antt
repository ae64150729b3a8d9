-- A table of frames from the checks of its instructions, and where a method has none.
use Rattle.std.proofs.Common.{◌≡◌, ℕ, ◌+◌, ◌<◌, ◌≤◌, Bool, true, false, cond, eqb, ltb, List, [], ◌∷◌, map, Option, Some, None, refl, sym, ap, ◌∙◌, subst, arith}
use Rattle.std.specs.Prelude.{IsSome}
use Rattle.std.proofs.lemmas.Bool.Decides.{nat_tests}
use Rattle.jv_lists.proofs.Tests.{value_of}
use Rattle.jv_types.specs.Bodies.{at_offset, rises_from, IsStart, IsNextStart}
use Rattle.jv_types.specs.declared.ids.MethodId.{MethodId}
use Rattle.jv_types.specs.declared.shapes.Shape.{Shape}
use Rattle.jv_types.specs.declared.instruction.Insn.{Insn}
use Rattle.jv_types.specs.declared.body.Body.{Body}
use Rattle.jv_types.specs.declared.frames.Frame.{Frame}
use Rattle.jv_insn.specs.Effects.{is_end}
use Rattle.jv_names.proofs.NamedOnce.{given_twice}
use Rattle.jv_frames.specs.Entry.{IsInitialFrame}
use Rattle.jv_frames.specs.Assignable.{IsFrameAssignable, same}
use Rattle.jv_typing.specs.Steps.{StepTyping}
use Rattle.jv_typing.specs.TypeSafe.{site_at, FitsThere, FitsWhereItGoes, BeginsRight, IsTypedAt, IsTypeSafe, IsForced, first, by_map, left, FailsAt, no_initial, unfit_initial, unforced, misshapen, untyped, unfit, FailsLeastAt}
use Rattle.jv_typing_laws.proofs.OneFrame.{one_step, one_initial}
use Rattle.jv_typing_laws.proofs.Rows.{starts_by, nothing_starts, one_before}
use Rattle.jv_verify.specs.Steps.Forcing.{forced_here, with_frame, AreForcedFrom, AreForced}
use Rattle.jv_verify.specs.Steps.Checking.{StandsIn, IsCheckedAt, FailsHere, AreChecked, FailsFirst, FitsFirst, HasBegun, IsReady}
use Rattle.jv_verify.specs.Steps.Checking as checks
use Rattle.jv_verify.proofs.Exact.{IsExactAt, exact_frames, forced_rise, rest_rises, none_below, none_is_no_some, start_above}
use Rattle.jv_verify.proofs.Itself.{frame_to_itself}

-- ---- what was made

-- the frames that were made for a code that is ready
pub record AreMade (w : List Shape) (method : MethodId) (body : Body) (maps rows : List (ℕ × Frame)) (initial : Frame) : Type 0 where
  pub ready : IsReady body maps
  pub begun : HasBegun w method body maps initial
  pub forced : AreForcedFrom w method body maps (Some initial) body.insns rows

exact_at : (w : List Shape) (method : MethodId) (body : Body) (maps rows : List (ℕ × Frame)) (initial : Frame) → AreMade w method body maps rows initial
    → (pc : ℕ) → IsStart body.insns pc → IsExactAt w method body maps pc (at_offset pc rows)
exact_at w method body maps rows initial made pc s =
    exact_frames w method body maps (Some initial) rows
    (record {
      at_zero = made.ready.at_zero;
      forth = λ frame is. let e : initial ≡ frame = cc in subst (IsInitialFrame w method body.max_locals) e made.begun.is;
      back = λ frame h. ap (λ (f : Frame). Some f) (one_initial w method body.max_locals initial frame made.begun.is h);
    }) made.forced pc s

-- a frame is forced at instructions alone
forced_starts : (w : List Shape) (method : MethodId) (body : Body) (maps : List (ℕ × Frame)) (pc : ℕ) (frame : Frame) → IsReady body maps → IsForced w method body maps pc frame → IsStart body.insns pc
forced_starts w method body maps pc frame ready (first _ _ z n i) = subst (IsStart body.insns) (sym z) ready.at_zero
forced_starts w method body maps pc frame ready (by_map _ _ s) = ready.maps_start pc (starts_by (at_offset pc maps) frame s)
forced_starts w method body maps pc frame ready (left before _ insn from _ f at e next n t) = next.starts

-- what stands in the rows is what is forced
to_rows : (w : List Shape) (method : MethodId) (body : Body) (maps rows : List (ℕ × Frame)) (initial : Frame) → AreMade w method body maps rows initial
    → (pc : ℕ) (frame : Frame) → IsForced w method body maps pc frame → StandsIn rows pc frame
to_rows w method body maps rows initial made pc frame h = (exact_at w method body maps rows initial made pc (forced_starts w method body maps pc frame made.ready h)).back frame h

starts_there : (w : List Shape) (method : MethodId) (body : Body) (maps rows : List (ℕ × Frame)) (before : Option Frame) (insns : List (ℕ × Insn)) (low pc : ℕ) → rises_from low insns ≡ true
    → AreForcedFrom w method body maps before insns rows → IsStart rows pc → IsStart insns pc
starts_there w method body maps rows before [] low pc r h s = absurd (nothing_starts (at_offset pc rows) (ap (at_offset pc) h) s)
starts_there w method body maps rows before (row ∷ insns) low pc r (next, rest, leaves, more, is) s =
    let parts = rest_rises low row insns r in
    by (eqb row.0 pc) refl (forced_here (at_offset row.0 maps) before) (subst (λ (l : List (ℕ × Frame)). IsStart l pc) is s) (λ t. starts_there w method body maps rest next insns (row.0 + 1) pc parts.1 more t)
  where
    by : (b : Bool) → eqb row.0 pc ≡ b → (here : Option Frame) → IsStart (with_frame row.0 here rest) pc → (IsStart rest pc → IsStart insns pc) → IsSome (cond b (Some row.1) (at_offset pc insns))
    by true e here t further = refl
    by false e None t further = further t
    by false e (Some frame) t further = further (rw e at t)

to_forced : (w : List Shape) (method : MethodId) (body : Body) (maps rows : List (ℕ × Frame)) (initial : Frame) → AreMade w method body maps rows initial
    → (pc : ℕ) (frame : Frame) → StandsIn rows pc frame → IsForced w method body maps pc frame
to_forced w method body maps rows initial made pc frame h =
    let s = starts_there w method body maps rows (Some initial) body.insns 0 pc body.rising made.forced (starts_by (at_offset pc rows) frame h) in
    (exact_at w method body maps rows initial made pc s).forth frame h

pub forced_rows : (w : List Shape) (method : MethodId) (body : Body) (maps rows : List (ℕ × Frame)) (initial : Frame) → AreMade w method body maps rows initial → AreForced w method body maps rows
forced_rows w method body maps rows initial made = record {
  forth = to_forced w method body maps rows initial made;
  back = to_rows w method body maps rows initial made;
  starts = λ pc s. starts_there w method body maps rows (Some initial) body.insns 0 pc body.rising made.forced s;
}

-- ---- where a frame fits, by either

pub fits_by : (w : List Shape) (body : Body) (A B : ℕ → Frame → Type 0) → ((pc : ℕ) (frame : Frame) → A pc frame → B pc frame) → (pc : ℕ) (insn : Insn) (frame after : Frame)
    → FitsWhereItGoes w body A pc insn frame after → FitsWhereItGoes w body B pc insn frame after
fits_by w body A B f pc insn frame after goes = record {
  falls = λ e. let h = goes.falls e in (h.0, h.1, there h.0 after h.2);
  jumps = λ target among. there target after (goes.jumps target among);
  throws = λ handler among covers. let h = goes.throws handler among covers in record { throwable = h.throwable; fits = there handler.target _ h.fits };
}
  where
    there : (place : ℕ) (g : Frame) → FitsThere w A place g → FitsThere w B place g
    there place g (x, stands, fits) = (x, f place x stands, fits)

-- ---- a table

-- the offsets of the rows are those of the instructions, where a frame was made for each
same_offsets : (w : List Shape) (method : MethodId) (body : Body) (maps : List (ℕ × Frame)) (before : Option Frame) (insns : List (ℕ × Insn)) (rows : List (ℕ × Frame)) (low : ℕ) → rises_from low insns ≡ true
    → AreForcedFrom w method body maps before insns rows → ((pc : ℕ) → IsStart insns pc → IsStart rows pc) → map (λ (row : ℕ × Frame). row.0) rows ≡ map (λ (row : ℕ × Insn). row.0) insns
same_offsets w method body maps before [] rows low r h all = ap (map (λ (row : ℕ × Frame). row.0)) h
same_offsets w method body maps before (row ∷ insns) rows low r (next, rest, leaves, more, is) all =
    let parts = rest_rises low row insns r in
    let none : at_offset row.0 rest ≡ None = none_below (row.0 + 1) row.0 rest (forced_rise w method body maps (row.0 + 1) next insns rest parts.1 more) (omega arith) in
    rw is (by (forced_here (at_offset row.0 maps) before) none (λ pc s. subst (λ (l : List (ℕ × Frame)). IsStart l pc) is (all pc s)) parts.1
    (λ later. same_offsets w method body maps next insns rest (row.0 + 1) parts.1 more later))
  where
    Keys : List (ℕ × Frame) → Type 0
    Keys l = map (λ (r : ℕ × Frame). r.0) l ≡ row.0 ∷ map (λ (r : ℕ × Insn). r.0) insns

    own : IsStart (row ∷ insns) row.0
    own = let itself : eqb row.0 row.0 ≡ true = grind (arith, nat_tests) in rw itself refl

    skipped : (frame : Frame) → ((pc : ℕ) → IsStart (row ∷ insns) pc → IsStart ((row.0, frame) ∷ rest) pc) → rises_from (row.0 + 1) insns ≡ true → (pc : ℕ) → IsStart insns pc → IsStart rest pc
    skipped frame every rises pc s =
        let above : row.0 + 1 ≤ pc = start_above (row.0 + 1) pc insns rises s in
        let other : eqb row.0 pc ≡ false = grind (arith, nat_tests) in
        let here : IsStart (row ∷ insns) pc = rw other s in
        let there : IsStart ((row.0, frame) ∷ rest) pc = every pc here in
        rw other at there

    by : (here : Option Frame) → at_offset row.0 rest ≡ None → ((pc : ℕ) → IsStart (row ∷ insns) pc → IsStart (with_frame row.0 here rest) pc) → rises_from (row.0 + 1) insns ≡ true
        → (((pc : ℕ) → IsStart insns pc → IsStart rest pc) → map (λ (r : ℕ × Frame). r.0) rest ≡ map (λ (r : ℕ × Insn). r.0) insns) → Keys (with_frame row.0 here rest)
    by None none every rises further = absurd (nothing_starts (at_offset row.0 rest) none (every row.0 own))
    by (Some frame) none every rises further = ap (λ (l : List ℕ). row.0 ∷ l) (further (skipped frame every rises))

pub table_is_made : (w : List Shape) (method : MethodId) (body : Body) (maps rows : List (ℕ × Frame)) (initial : Frame) → AreMade w method body maps rows initial → AreChecked w method body rows
    → IsTypeSafe w method body maps rows
table_is_made w method body maps rows initial made checked = record {
  one_each = same_offsets w method body maps (Some initial) body.insns rows 0 body.rising made.forced (λ pc s. stands_at pc s);
  begins = begins (at_offset 0 maps) refl;
  maps_are = λ pc frame at. to_rows w method body maps rows initial made pc frame (by_map pc frame at);
  each = λ pc insn frame at stands. typed pc insn frame at stands;
}
  where
    check_at : (pc : ℕ) → IsStart body.insns pc → (insn : Insn) × IsCheckedAt w method body rows pc insn
    check_at pc s = let what = value_of (at_offset pc body.insns) s in (what.0, checked pc what.0 what.1)

    stands_at : (pc : ℕ) → IsStart body.insns pc → IsStart rows pc
    stands_at pc s = let h = (check_at pc s).1 in starts_by (at_offset pc rows) h.frame h.stands

    begins : (o : Option Frame) → at_offset 0 maps ≡ o → BeginsRight w method body maps rows
    begins (Some map) e = record {
      initial = initial;
      is_initial = made.begun.is;
      first = map;
      stands = to_rows w method body maps rows initial made 0 map (by_map 0 map e);
      fits = made.begun.fits map e;
      same = λ none. absurd (none_is_no_some (at_offset 0 maps) map none e);
    }
    begins None e = record {
      initial = initial;
      is_initial = made.begun.is;
      first = initial;
      stands = to_rows w method body maps rows initial made 0 initial (first 0 initial refl e made.begun.is);
      fits = frame_to_itself w initial;
      same = λ none. refl;
    }

    behind_end : (pc next : ℕ) (insn : Insn) (frame : Frame) → at_offset pc body.insns ≡ Some insn → is_end insn.op ≡ true → IsNextStart pc body.insns next → IsForced w method body maps next frame → IsStart maps next
    behind_end pc next insn frame at end after (first _ _ z n i) = absurd (let above : pc < next = after.above in omega arith)
    behind_end pc next insn frame at end after (by_map _ _ s) = starts_by (at_offset next maps) frame s
    behind_end pc next insn frame at end after (left other _ insn' from _ f at' goes next' n t) =
        let place : other ≡ pc = one_before body.insns other pc next (starts_by (at_offset other body.insns) insn' at') (starts_by (at_offset pc body.insns) insn at) next' after in
        let there : at_offset pc body.insns ≡ Some insn' = subst (λ (k : ℕ). at_offset k body.insns ≡ Some insn') place at' in
        let one : insn' ≡ insn = given_twice (at_offset pc body.insns) insn' insn there at in
        let clash : true ≡ false = sym end ∙ subst (λ (i : Insn). is_end i.op ≡ false) one goes in
        absurd cc

    typed : (pc : ℕ) (insn : Insn) (frame : Frame) → at_offset pc body.insns ≡ Some insn → at_offset pc rows ≡ Some frame → IsTypedAt w method body maps rows pc insn frame
    typed pc insn frame at stands =
        let h = checked pc insn at in
        let one : h.frame ≡ frame = given_twice (at_offset pc rows) h.frame frame h.stands stands in
        let typing : StepTyping w (site_at method body pc) frame insn h.after = subst (λ (f : Frame). StepTyping w (site_at method body pc) f insn h.after) one h.typing in
        record {
          operands = made.ready.operands pc insn at;
          after = h.after;
          typing = typing;
          goes = subst (λ (f : Frame). FitsWhereItGoes w body (StandsIn rows) pc insn f h.after) one h.goes;
          same = λ next goes_on after none.
              to_rows w method body maps rows initial made next h.after
              (left pc next insn frame h.after (to_forced w method body maps rows initial made pc frame stands) at goes_on after none typing);
          ends = λ next end after.
              let g = (check_at next after.starts).1 in
              behind_end pc next insn g.frame at end after (to_forced w method body maps rows initial made next g.frame g.stands);
        }

-- ---- where there is none

-- it fails where a check does
fails_there : (w : List Shape) (method : MethodId) (body : Body) (maps rows : List (ℕ × Frame)) (initial : Frame) → AreMade w method body maps rows initial
    → (pc : ℕ) (insn : Insn) → at_offset pc body.insns ≡ Some insn → FailsHere w method body rows pc insn → FailsAt w method body maps pc
fails_there w method body maps rows initial made pc insn at (checks.bare none) =
    unforced (starts_by (at_offset pc body.insns) insn at) (λ frame h. none_is_no_some (at_offset pc rows) frame none (to_rows w method body maps rows initial made pc frame h))
fails_there w method body maps rows initial made pc insn at (checks.untyped frame stands none) =
    untyped insn frame at (to_forced w method body maps rows initial made pc frame stands) none
fails_there w method body maps rows initial made pc insn at (checks.unfit frame after stands typing none) =
    unfit insn frame after at (to_forced w method body maps rows initial made pc frame stands) typing
    (λ goes. none (fits_by w body (IsForced w method body maps) (StandsIn rows) (λ place g h. to_rows w method body maps rows initial made place g h) pc insn frame after goes))

-- it doesn't where the instruction was checked
passes_there : (w : List Shape) (method : MethodId) (body : Body) (maps rows : List (ℕ × Frame)) (initial : Frame) → AreMade w method body maps rows initial
    → (pc : ℕ) → ((insn : Insn) → at_offset pc body.insns ≡ Some insn → IsCheckedAt w method body rows pc insn) → FailsAt w method body maps pc → ⊥
passes_there w method body maps rows initial made pc checked (no_initial z none) = none initial made.begun.is
passes_there w method body maps rows initial made pc checked (unfit_initial own map z is at none) =
    let one : initial ≡ own = one_initial w method body.max_locals initial own made.begun.is is in
    none (subst (λ (f : Frame). IsFrameAssignable w f map) one (made.begun.fits map at))
passes_there w method body maps rows initial made pc checked (unforced s none) =
    let what = value_of (at_offset pc body.insns) s in
    let h = checked what.0 what.1 in
    none h.frame (to_forced w method body maps rows initial made pc h.frame h.stands)
passes_there w method body maps rows initial made pc checked (misshapen insn at none) = none (made.ready.operands pc insn at)
passes_there w method body maps rows initial made pc checked (untyped insn frame at forced none) =
    let h = checked insn at in
    let one : h.frame ≡ frame = given_twice (at_offset pc rows) h.frame frame h.stands (to_rows w method body maps rows initial made pc frame forced) in
    none h.after (subst (λ (f : Frame). StepTyping w (site_at method body pc) f insn h.after) one h.typing)
passes_there w method body maps rows initial made pc checked (unfit insn frame after at forced typing none) =
    let h = checked insn at in
    let one : h.frame ≡ frame = given_twice (at_offset pc rows) h.frame frame h.stands (to_rows w method body maps rows initial made pc frame forced) in
    let typed : StepTyping w (site_at method body pc) frame insn h.after = subst (λ (f : Frame). StepTyping w (site_at method body pc) f insn h.after) one h.typing in
    let left_one : h.after ≡ after = one_step w (site_at method body pc) frame insn h.after after typed typing in
    let goes : FitsWhereItGoes w body (StandsIn rows) pc insn frame h.after = subst (λ (f : Frame). FitsWhereItGoes w body (StandsIn rows) pc insn f h.after) one h.goes in
    let fits : FitsWhereItGoes w body (StandsIn rows) pc insn frame after = subst (λ (f : Frame). FitsWhereItGoes w body (StandsIn rows) pc insn frame f) left_one goes in
    none (fits_by w body (StandsIn rows) (IsForced w method body maps) (λ place g s. to_forced w method body maps rows initial made place g s) pc insn frame after fits)

pub first_failing_is_least : (w : List Shape) (method : MethodId) (body : Body) (maps rows : List (ℕ × Frame)) (initial : Frame) (pc : ℕ) → AreMade w method body maps rows initial → FailsFirst w method body rows pc
    → FailsLeastAt w method body maps pc
first_failing_is_least w method body maps rows initial pc made h = record {
  fails = fails_there w method body maps rows initial made pc h.insn h.stands h.fails;
  least = λ other fails. by other fails (ltb other pc) refl;
}
  where
    by : (other : ℕ) → FailsAt w method body maps other → (b : Bool) → ltb other pc ≡ b → pc ≤ other
    by other fails false e = grind (arith, nat_tests)
    by other fails true e =
        let lt : other < pc = grind (arith, nat_tests) in
        absurd (passes_there w method body maps rows initial made other (λ insn at. h.before other insn lt at) fails)

-- the frame as the method begins
pub none_begins : (w : List Shape) (method : MethodId) (body : Body) (maps : List (ℕ × Frame)) → ((frame : Frame) → IsInitialFrame w method body.max_locals frame → ⊥) → FailsLeastAt w method body maps 0
none_begins w method body maps none = record { fails = no_initial refl none; least = λ other fails. omega arith }

pub unfit_begins : (w : List Shape) (method : MethodId) (body : Body) (maps : List (ℕ × Frame)) (initial : Frame) → IsInitialFrame w method body.max_locals initial
    → (FitsFirst w maps initial → ⊥) → FailsLeastAt w method body maps 0
unfit_begins w method body maps initial is none = record { fails = by (at_offset 0 maps) refl; least = λ other fails. omega arith }
  where
    by : (o : Option Frame) → at_offset 0 maps ≡ o → FailsAt w method body maps 0
    by None e = absurd (none (λ map at. absurd (none_is_no_some (at_offset 0 maps) map e at)))
    by (Some map) e =
        unfit_initial initial map refl is e (λ fits. none (λ other at. subst (IsFrameAssignable w initial) (given_twice (at_offset 0 maps) map other e at) fits))
