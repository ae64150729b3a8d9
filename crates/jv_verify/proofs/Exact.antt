-- The frames that are made one after the other are exactly those that are forced.
use Rattle.std.proofs.Common.{◌≡◌, ℕ, ◌+◌, ◌<◌, ◌≤◌, Bool, true, false, cond, eqb, List, [], ◌∷◌, ◌++◌, append_assoc, Option, Some, None, refl, sym, ap, ◌∙◌, subst, arith}
use Rattle.std.specs.Prelude.{nat_le, IsSome}
use Rattle.std.proofs.lemmas.Bool.{and_parts}
use Rattle.std.proofs.lemmas.Bool.Decides.{nat_tests}
use Rattle.jv_types.specs.Bodies.{at_offset, rises_from, IsStart, IsNextStart}
use Rattle.jv_types.specs.declared.ids.MethodId.{MethodId}
use Rattle.jv_types.specs.declared.shapes.Shape.{Shape}
use Rattle.jv_types.specs.declared.instruction.Insn.{Insn}
use Rattle.jv_types.specs.declared.body.Body.{Body}
use Rattle.jv_types.specs.declared.frames.Frame.{Frame}
use Rattle.jv_insn.specs.Effects.{is_end}
use Rattle.jv_names.proofs.NamedOnce.{given_twice}
use Rattle.jv_frames.specs.Entry.{IsInitialFrame}
use Rattle.jv_typing.specs.Steps.{StepTyping}
use Rattle.jv_typing.specs.TypeSafe.{site_at, IsForced, first, by_map, left}
use Rattle.jv_typing_laws.proofs.OneFrame.{one_step}
use Rattle.jv_typing_laws.proofs.Forced.{one_forced}
use Rattle.jv_typing_laws.proofs.Rows.{starts_by, one_before}
use Rattle.jv_verify.specs.Steps.Forcing.{forced_here, with_frame, IsHandedOn, IsLeft, AreForcedFrom}

pub none_is_no_some : {X : Type 0} (o : Option X) (x : X) → o ≡ None → o ≡ Some x → ⊥
none_is_no_some o x e f = absurd cc

-- ---- rows that rise

pub rest_rises : {X : Type 0} (low : ℕ) (row : ℕ × X) (rows : List (ℕ × X)) → rises_from low (row ∷ rows) ≡ true → (low ≤ row.0) × (rises_from (row.0 + 1) rows ≡ true)
rest_rises low row rows r =
    let parts = and_parts (nat_le low row.0) (rises_from (row.0 + 1) rows) r in
    let le : low ≤ row.0 = grind (arith, nat_tests) in
    (le, parts.1)

-- a start isn't below the first
pub start_above : {X : Type 0} (low pc : ℕ) (rows : List (ℕ × X)) → rises_from low rows ≡ true → IsStart rows pc → low ≤ pc
start_above low pc [] r s = absurd cc
start_above {X} low pc (row ∷ rows) r s =
    let parts = rest_rises low row rows r in
    by (eqb row.0 pc) refl s parts.0 (λ t. start_above (row.0 + 1) pc rows parts.1 t)
  where
    by : (b : Bool) → eqb row.0 pc ≡ b → IsSome (cond b (Some row.1) (at_offset pc rows)) → low ≤ row.0 → (IsStart rows pc → row.0 + 1 ≤ pc) → low ≤ pc
    by true e t le more = grind (arith, nat_tests)
    by false e t le more = let above = more t in omega arith

pub none_below : {X : Type 0} (low pc : ℕ) (rows : List (ℕ × X)) → rises_from low rows ≡ true → pc < low → at_offset pc rows ≡ None
none_below {X} low pc rows r lt = by (at_offset pc rows) refl
  where
    by : (o : Option X) → at_offset pc rows ≡ o → at_offset pc rows ≡ None
    by None e = e
    by (Some x) e = absurd (let above = start_above low pc rows r (starts_by (at_offset pc rows) x e) in omega arith)

-- what starts at an offset, past rows that start elsewhere
skip : {X : Type 0} (row : ℕ × X) (rows : List (ℕ × X)) (pc : ℕ) → row.0 < pc → at_offset pc (row ∷ rows) ≡ at_offset pc rows
skip row rows pc lt = let other : eqb row.0 pc ≡ false = grind (arith, nat_tests) in rw other refl

found : {X : Type 0} (row : ℕ × X) (rows : List (ℕ × X)) → at_offset row.0 (row ∷ rows) ≡ Some row.1
found row rows = let itself : eqb row.0 row.0 ≡ true = grind (arith, nat_tests) in rw itself refl

-- a row in the middle is found, and the one behind it starts next
pub record Adjoin {X : Type 0} (rows : List (ℕ × X)) (row next : ℕ × X) : Type 0 where
  pub here : at_offset row.0 rows ≡ Some row.1
  pub after : IsNextStart row.0 rows next.0

adjoin : {X : Type 0} (low : ℕ) (done : List (ℕ × X)) (row next : ℕ × X) (rest : List (ℕ × X)) → rises_from low (done ++ row ∷ next ∷ rest) ≡ true → Adjoin (done ++ row ∷ next ∷ rest) row next × (low ≤ row.0)
adjoin {X} low [] row next rest r =
    let parts = rest_rises low row (next ∷ rest) r in
    let more = rest_rises (row.0 + 1) next rest parts.1 in
    let lt : row.0 < next.0 = omega (arith, more.0) in
    let at : at_offset next.0 (row ∷ next ∷ rest) ≡ Some next.1 = skip row (next ∷ rest) next.0 lt ∙ found next rest in (
      record {
        here = found row (next ∷ rest);
        after = record {
          above = lt;
          starts = starts_by (at_offset next.0 (row ∷ next ∷ rest)) next.1 at;
          least = λ other above s.
              start_above next.0 other (next ∷ rest) (from_itself next rest more.1) (subst IsSome (skip row (next ∷ rest) other above) s);
        };
      },
      parts.0,
    )
  where
    from_itself : (n : ℕ × X) (ns : List (ℕ × X)) → rises_from (n.0 + 1) ns ≡ true → rises_from n.0 (n ∷ ns) ≡ true
    from_itself n ns e = let itself : nat_le n.0 n.0 ≡ true = grind (arith, nat_tests) in rw (itself, e) refl
adjoin {X} low (d ∷ done) row next rest r =
    let parts = rest_rises low d (done ++ row ∷ next ∷ rest) r in
    let more = adjoin (d.0 + 1) done row next rest parts.1 in
    let both : Adjoin (done ++ row ∷ next ∷ rest) row next = more.0 in
    let lt : d.0 < row.0 = omega (arith, more.1) in
    let later : d.0 < next.0 = omega (arith, both.after.above) in
    let rows : List (ℕ × X) = done ++ row ∷ next ∷ rest in (
      record {
        here = skip d rows row.0 lt ∙ both.here;
        after = record {
          above = both.after.above;
          starts = subst IsSome (sym (skip d rows next.0 later)) both.after.starts;
          least = λ other above s. both.after.least other above (subst IsSome (skip d rows other (omega arith)) s);
        };
      },
      omega (arith, parts.0),
    )

-- ---- one instruction

-- what comes from before an instruction is forced there, where no map stands
pub record Arrives (w : List Shape) (method : MethodId) (body : Body) (maps : List (ℕ × Frame)) (pc : ℕ) (before : Option Frame) : Type 0 where
  pub forth : (frame : Frame) → before ≡ Some frame → at_offset pc maps ≡ None → IsForced w method body maps pc frame
  pub back : (frame : Frame) → IsForced w method body maps pc frame → at_offset pc maps ≡ None → before ≡ Some frame

-- a frame is here exactly where it is forced
pub record IsExactAt (w : List Shape) (method : MethodId) (body : Body) (maps : List (ℕ × Frame)) (pc : ℕ) (here : Option Frame) : Type 0 where
  pub forth : (frame : Frame) → here ≡ Some frame → IsForced w method body maps pc frame
  pub back : (frame : Frame) → IsForced w method body maps pc frame → here ≡ Some frame

here_exact : (w : List Shape) (method : MethodId) (body : Body) (maps : List (ℕ × Frame)) (pc : ℕ) (before : Option Frame) → Arrives w method body maps pc before
    → IsExactAt w method body maps pc (forced_here (at_offset pc maps) before)
here_exact w method body maps pc before arrives = by (at_offset pc maps) refl
  where
    by : (o : Option Frame) → at_offset pc maps ≡ o → IsExactAt w method body maps pc (forced_here o before)
    by None e = record { forth = λ frame is. arrives.forth frame is e; back = λ frame forced. arrives.back frame forced e }
    by (Some map) e =
        let here : IsForced w method body maps pc map = by_map pc map e in
        record {
          forth = λ frame is. let same : map ≡ frame = cc in subst (IsForced w method body maps pc) same here;
          back = λ frame forced. ap (λ (f : Frame). Some f) (one_forced w method body maps pc map frame here forced);
        }

-- what an instruction leaves arrives at the next one
next_arrives : (w : List Shape) (method : MethodId) (body : Body) (maps : List (ℕ × Frame)) (pc next_pc : ℕ) (insn : Insn) (here next : Option Frame) → IsExactAt w method body maps pc here
    → at_offset pc body.insns ≡ Some insn → IsNextStart pc body.insns next_pc → IsLeft w method body maps pc insn here next → Arrives w method body maps next_pc next
next_arrives w method body maps pc next_pc insn here next exact at after leaves = record {
  forth = λ frame is none. forth next frame is none leaves;
  back = λ frame forced none. back frame forced none;
}
  where
    forth : (n : Option Frame) (frame : Frame) → n ≡ Some frame → at_offset next_pc maps ≡ None → IsLeft w method body maps pc insn here n → IsForced w method body maps next_pc frame
    forth None frame is none l = absurd cc
    forth (Some own) frame is none l =
        let same : own ≡ frame = cc in
        let typing : StepTyping w (site_at method body pc) l.0 insn own = l.3 in
        subst (IsForced w method body maps next_pc) same (left pc next_pc insn l.0 own (exact.forth l.0 l.1) at l.2 after none typing)

    reaches : (n : Option Frame) (from frame : Frame) → here ≡ Some from → IsHandedOn body maps pc insn.op next_pc → StepTyping w (site_at method body pc) from insn frame → IsLeft w method body maps pc insn here n → n ≡ Some frame
    reaches None from frame is handed typing l = absurd (l next_pc from frame handed is typing)
    reaches (Some own) from frame is handed typing l =
        let same : l.0 ≡ from = given_twice here l.0 from l.1 is in
        let typed : StepTyping w (site_at method body pc) from insn own = subst (λ (f : Frame). StepTyping w (site_at method body pc) f insn own) same l.3 in
        ap (λ (f : Frame). Some f) (one_step w (site_at method body pc) from insn own frame typed typing)

    back : (frame : Frame) → IsForced w method body maps next_pc frame → at_offset next_pc maps ≡ None → next ≡ Some frame
    back frame (first _ _ z n i) none = absurd (let above : pc < next_pc = after.above in omega arith)
    back frame (by_map _ _ s) none = absurd (none_is_no_some (at_offset next_pc maps) frame none s)
    back frame (left other _ insn' from _ f at' goes next' n t) none =
        let place : other ≡ pc = one_before body.insns other pc next_pc (starts_by (at_offset other body.insns) insn' at') (starts_by (at_offset pc body.insns) insn at) next' after in
        let there : at_offset pc body.insns ≡ Some insn' = subst (λ (k : ℕ). at_offset k body.insns ≡ Some insn') place at' in
        let same : insn' ≡ insn = given_twice (at_offset pc body.insns) insn' insn there at in
        let is : here ≡ Some from = exact.back from (subst (λ (k : ℕ). IsForced w method body maps k from) place f) in
        let moved : StepTyping w (site_at method body pc) from insn' frame = subst (λ (k : ℕ). StepTyping w (site_at method body k) from insn' frame) place t in
        let typed : StepTyping w (site_at method body pc) from insn frame = subst (λ (i : Insn). StepTyping w (site_at method body pc) from i frame) same moved in
        let on : is_end insn.op ≡ false = subst (λ (i : Insn). is_end i.op ≡ false) same goes in
        reaches next from frame is (record { goes = on; after = after; no_map = none }) typed leaves

-- ---- all instructions

-- rows of these frames rise as their instructions do
pub forced_rise : (w : List Shape) (method : MethodId) (body : Body) (maps : List (ℕ × Frame)) (low : ℕ) (before : Option Frame) (insns : List (ℕ × Insn)) (rows : List (ℕ × Frame))
    → rises_from low insns ≡ true → AreForcedFrom w method body maps before insns rows → rises_from low rows ≡ true
forced_rise w method body maps low before [] rows r h = rw h refl
forced_rise w method body maps low before (row ∷ insns) rows r (next, rest, leaves, more, is) =
    let parts = rest_rises low row insns r in
    let later = forced_rise w method body maps (row.0 + 1) next insns rest parts.1 more in
    rw is (with_row (forced_here (at_offset row.0 maps) before) rest parts.0 later)
  where
    with_row : (here : Option Frame) (rest : List (ℕ × Frame)) → low ≤ row.0 → rises_from (row.0 + 1) rest ≡ true → rises_from low (with_frame row.0 here rest) ≡ true
    with_row None rest le later = lower low (row.0 + 1) rest (omega arith) later
      where
        lower : (a b : ℕ) (xs : List (ℕ × Frame)) → a ≤ b → rises_from b xs ≡ true → rises_from a xs ≡ true
        lower a b [] le e = refl
        lower a b (x ∷ xs) le e =
            let p = rest_rises b x xs e in
            let head : nat_le a x.0 ≡ true = let low : a ≤ x.0 = omega (arith, p.0) in grind (arith, nat_tests) in
            rw (head, p.1) refl
    with_row (Some frame) rest le later = let head : nat_le low row.0 ≡ true = grind (arith, nat_tests) in rw (head, later) refl

-- the first of these instructions has what arrives there
abbrev pub FirstArrives : List Shape → MethodId → Body → List (ℕ × Frame) → Option Frame → List (ℕ × Insn) → Type 0
FirstArrives w method body maps before [] = Unit {0}
FirstArrives w method body maps before (row ∷ insns) = Arrives w method body maps row.0 before

exact_from : (w : List Shape) (method : MethodId) (body : Body) (maps : List (ℕ × Frame)) (done insns : List (ℕ × Insn)) (low : ℕ) (before : Option Frame) (rows : List (ℕ × Frame))
    → body.insns ≡ done ++ insns → rises_from low insns ≡ true → FirstArrives w method body maps before insns → AreForcedFrom w method body maps before insns rows
    → (pc : ℕ) → IsStart insns pc → IsExactAt w method body maps pc (at_offset pc rows)
exact_from w method body maps done [] low before rows whole r arrives h pc s = absurd cc
exact_from w method body maps done (row ∷ insns) low before rows whole r arrives (next, rest, leaves, more, is) pc s =
    let parts = rest_rises low row insns r in
    let here = forced_here (at_offset row.0 maps) before in
    let exact : IsExactAt w method body maps row.0 here = here_exact w method body maps row.0 before arrives in
    let none : at_offset row.0 rest ≡ None = none_below (row.0 + 1) row.0 rest (forced_rise w method body maps (row.0 + 1) next insns rest parts.1 more) (omega arith) in
    let further = exact_from w method body maps (done ++ row ∷ []) insns (row.0 + 1) next rest (whole ∙ sym (append_assoc done (row ∷ []) insns)) parts.1
    (later insns whole exact leaves) more pc in
    rw is (by_place (eqb row.0 pc) refl here s exact none further)
  where
    later : (rest : List (ℕ × Insn)) → body.insns ≡ done ++ row ∷ rest → IsExactAt w method body maps row.0 (forced_here (at_offset row.0 maps) before)
        → IsLeft w method body maps row.0 row.1 (forced_here (at_offset row.0 maps) before) next → FirstArrives w method body maps next rest
    later [] e exact leaves = tt
    later (n ∷ ns) e exact leaves =
        let rising : rises_from 0 (done ++ row ∷ n ∷ ns) ≡ true = subst (λ (l : List (ℕ × Insn)). rises_from 0 l ≡ true) e body.rising in
        let both : Adjoin (done ++ row ∷ n ∷ ns) row n = (adjoin 0 done row n ns rising).0 in
        let here : at_offset row.0 body.insns ≡ Some row.1 = subst (λ (l : List (ℕ × Insn)). at_offset row.0 l ≡ Some row.1) (sym e) both.here in
        let after : IsNextStart row.0 body.insns n.0 = subst (λ (l : List (ℕ × Insn)). IsNextStart row.0 l n.0) (sym e) both.after in
        next_arrives w method body maps row.0 n.0 row.1 (forced_here (at_offset row.0 maps) before) next exact here after leaves

    by_place : (b : Bool) → eqb row.0 pc ≡ b → (here : Option Frame) → IsSome (cond b (Some row.1) (at_offset pc insns)) → IsExactAt w method body maps row.0 here → at_offset row.0 rest ≡ None
        → (IsStart insns pc → IsExactAt w method body maps pc (at_offset pc rest)) → IsExactAt w method body maps pc (at_offset pc (with_frame row.0 here rest))
    by_place true e None s exact none further =
        let same : row.0 ≡ pc = grind (arith, nat_tests) in
        subst (λ (k : ℕ). IsExactAt w method body maps k (at_offset k rest)) same (rw none exact)
    by_place true e (Some frame) s exact none further =
        let same : row.0 ≡ pc = grind (arith, nat_tests) in
        rw e (subst (λ (k : ℕ). IsExactAt w method body maps k (Some frame)) same exact)
    by_place false e None s exact none further = further s
    by_place false e (Some frame) s exact none further = rw e (further s)

-- the first instruction stands at 0, and a frame is there as the method begins
pub record BeginsWith (w : List Shape) (method : MethodId) (body : Body) (begun : Option Frame) : Type 0 where
  pub at_zero : IsStart body.insns 0
  pub forth : (frame : Frame) → begun ≡ Some frame → IsInitialFrame w method body.max_locals frame
  pub back : (frame : Frame) → IsInitialFrame w method body.max_locals frame → begun ≡ Some frame

-- each frame that was made is forced, and each that is forced was made
pub exact_frames : (w : List Shape) (method : MethodId) (body : Body) (maps : List (ℕ × Frame)) (begun : Option Frame) (rows : List (ℕ × Frame)) → BeginsWith w method body begun
    → AreForcedFrom w method body maps begun body.insns rows → (pc : ℕ) → IsStart body.insns pc → IsExactAt w method body maps pc (at_offset pc rows)
exact_frames w method body maps begun rows begins h pc s =
    exact_from w method body maps [] body.insns 0 begun rows refl body.rising (at_first body.insns begins.at_zero body.rising) h pc s
  where
    at_first : (insns : List (ℕ × Insn)) → IsStart insns 0 → rises_from 0 insns ≡ true → FirstArrives w method body maps begun insns
    at_first [] z r = tt
    at_first (row ∷ insns) z r =
        let zero_first : row.0 ≡ 0 = by (eqb row.0 0) refl z in
        record {
          forth = λ frame is none. first row.0 frame zero_first (subst (λ (k : ℕ). at_offset k maps ≡ None) zero_first none) (begins.forth frame is);
          back = λ frame forced none. backwards frame zero_first forced none;
        }
      where
        by : (b : Bool) → eqb row.0 0 ≡ b → IsSome (cond b (Some row.1) (at_offset 0 insns)) → row.0 ≡ 0
        by true e t = grind (arith, nat_tests)
        by false e t =
            let parts = rest_rises 0 row insns r in
            absurd (let above : row.0 + 1 ≤ 0 = start_above (row.0 + 1) 0 insns parts.1 t in omega arith)

        backwards : (frame : Frame) → row.0 ≡ 0 → IsForced w method body maps row.0 frame → at_offset row.0 maps ≡ None → begun ≡ Some frame
        backwards frame z' (first _ _ z0 n i) none = begins.back frame i
        backwards frame z' (by_map _ _ s) none = absurd (none_is_no_some (at_offset row.0 maps) frame none s)
        backwards frame z' (left other _ insn' from _ f at' goes next' n t) none = absurd (let above : other < row.0 = next'.above in omega arith)
