-- A method with a table that types it is kind safe.
use Rattle.std.proofs.Common.{◌≡◌, ℕ, zero, suc, ◌+◌, ◌-◌, ◌<◌, ◌≤◌, Bool, true, false, ltb, not, if◌then◌else◌, List, [], ◌∷◌, ◌++◌, length, map, replicate, Option, Some, None, slice_get, refl, sym, ap, ◌∙◌, subst, ◌⊎◌, inl, inr, arith}
use Rattle.std.specs.Prelude.{IsTrue, All, option_and_then}
use Rattle.std.specs.List.{flat_map}
use Rattle.std.proofs.lemmas.Bool.Decides.{nat_tests}
use Rattle.std.proofs.lemmas.List.{length-append, append-nil}
use Rattle.jv_lists.proofs.Tests.{value_of}
use Rattle.jv_lists.proofs.Places.{slice_get-front}
use Rattle.jv_table.specs.CodeRows.{OpForm}
use Rattle.jv_table.specs.declared.code_tables.Cell.{Cell}
use Rattle.jv_table.specs.declared.code_tables.Kind.TheVariants as kinds
use Rattle.jv_types.specs.Bodies.{at_offset}
use Rattle.jv_types.specs.declared.desc.Desc.{Desc}
use Rattle.jv_types.specs.declared.ids.MethodId.{MethodId}
use Rattle.jv_types.specs.declared.shapes.Shape.{Shape}
use Rattle.jv_types.specs.declared.shapes.MethodShape.{MethodShape}
use Rattle.jv_types.specs.declared.instruction.Insn.{Insn}
use Rattle.jv_types.specs.declared.body.Handler.{Handler}
use Rattle.jv_types.specs.declared.frames.VType.{VType, Top, UninitThis, Class}
use Rattle.jv_types.specs.declared.frames.Frame.{Frame}
use Rattle.jv_types.specs.declared.frames.FramedBody.{FramedBody}
use Rattle.jv_resolve.specs.Members.{IsMethod}
use Rattle.jv_insn.specs.Effects.{Shuffle, effect_of, op_row, is_end, desc_cell, result_cells}
use Rattle.jv_insn.specs.Forms.{HasOwnOperands}
use Rattle.jv_insn.specs.Leaving.{Words}
use Rattle.jv_insn.specs.Kinds.{HoldsCells, EndsWithCells, WordKind, Reference, Unknown, cell_words, kinds_after, kinds_of, kinds_left, SaysOnly, SaysNoMore}
use Rattle.jv_insn.specs.KindSafe.{is_static, entry_words, FitsAt, HasWords, LocalHolds, HasEffect, IsKindSafeAt, IsKindSafe}
use Rattle.jv_insn.proofs.HeldCells.{held_kinds}
use Rattle.jv_frames.specs.Types.{type_words, in_words, desc_vtype}
use Rattle.jv_frames.specs.Entry.{begins_uninit, IsInitialFrame}
use Rattle.jv_typing.specs.Steps.{StepTyping, words, references}
use Rattle.jv_typing.specs.TypeSafe.{site_at, FitsThere, handler_frame, AreMapsOf, IsTypedAt, IsTypeSafe}
use Rattle.jv_typing_laws.specs.Formed.{IsFormed}
use Rattle.jv_typing_laws.proofs.Rows.{key_start, starts_by}
use Rattle.jv_typing_laws.proofs.Forced.{all_forced}
use Rattle.jv_typing_laws.proofs.FormedWords.{in_words_formed}
use Rattle.jv_typing_laws.proofs.CellSteps.{IsStepOf, by_cells, by_replacing, by_moving, step_of, rule_is_known, desc_holds_cell}
use Rattle.jv_typing_laws.proofs.FormedFrames.{initial_formed, forced_formed, step_formed, entry_holds}
use Rattle.jv_typing_laws.proofs.KindsOfWords.{kinds_join}
use Rattle.jv_typing_laws.proofs.KindsLeft.{get_right}
use Rattle.jv_typing_laws.proofs.KindsSaid.{no_more_through, assignable_says, step_says}
use Rattle.jv_typing_laws.proofs.Returns.{step_returns}

-- ---- frames of a table

-- each instruction of a table has the operands of its layout
table_own : (w : List Shape) (framed : FramedBody) (maps : List (ℕ × Frame)) → IsTypeSafe w framed.method framed.body maps framed.frames → (pc : ℕ) (insn : Insn) → at_offset pc framed.body.insns ≡ Some insn → HasOwnOperands insn
table_own w framed maps safe pc insn at =
    let frame = value_of (at_offset pc framed.frames) (key_start framed.body.insns framed.frames pc (sym safe.one_each) (starts_by (at_offset pc framed.body.insns) insn at)) in
    (safe.each pc insn frame.0 at frame.1).operands

pub table_formed : (w : List Shape) (framed : FramedBody) (pc : ℕ) (frame : Frame) (maps : List (ℕ × Frame)) → AreMapsOf w framed.method framed.body maps → IsTypeSafe w framed.method framed.body maps framed.frames
    → at_offset pc framed.frames ≡ Some frame → IsFormed frame
table_formed w framed pc frame maps m safe at =
    forced_formed w framed.method framed.body maps pc frame m (table_own w framed maps safe) (all_forced w framed.method framed.body maps framed.frames pc frame safe at)

-- ---- the first frame

params_hold : (params : List Desc) → HoldsCells (map desc_cell params) (in_words (map desc_vtype params))
params_hold [] = refl
params_hold (desc ∷ params) = (type_words (desc_vtype desc), (in_words (map desc_vtype params), (refl, desc_holds_cell desc, params_hold params)))

params_kinds : (params : List Desc) → kinds_after false (in_words (map desc_vtype params)) ≡ flat_map cell_words (map desc_cell params)
params_kinds params = held_kinds (map desc_cell params) false [] (in_words (map desc_vtype params)) (params_hold params)

entry_kinds : (class : List ℕ) (params : List Desc) (static begins : Bool)
    → kinds_after false (in_words ((if static then [] else (if begins then UninitThis else Class class) ∷ []) ++ map desc_vtype params)) ≡ (if static then [] else Reference ∷ []) ++ flat_map cell_words (map desc_cell params)
entry_kinds class params true begins = params_kinds params
entry_kinds class params false true = ap (λ (ks : List WordKind). Reference ∷ ks) (params_kinds params)
entry_kinds class params false false = ap (λ (ks : List WordKind). Reference ∷ ks) (params_kinds params)

-- nothing is known of Tops
tops_unknown : (n place : ℕ) (kind : WordKind) → slice_get (kinds_after false (replicate n Top)) place ≡ Some kind → kind ≡ Unknown
tops_unknown zero place kind e = absurd cc
tops_unknown (suc n) zero kind e = let some : Some Unknown ≡ Some kind = e in cc
tops_unknown (suc n) (suc place) kind e = tops_unknown n place kind e

padded_says : (kinds : List WordKind) (n : ℕ) → SaysOnly (kinds ++ kinds_after false (replicate n Top)) kinds
padded_says kinds n place kind e = by (ltb place (length kinds)) refl
  where
    by : (b : Bool) → ltb place (length kinds) ≡ b → (kind ≡ Unknown) ⊎ (slice_get kinds place ≡ Some kind)
    by true is =
        let lt : place < length kinds = grind (arith, nat_tests) in
        inr (sym (slice_get-front kinds (kinds_after false (replicate n Top)) place lt) ∙ e)
    by false is =
        let le : length kinds ≤ place = grind (arith, nat_tests) in
        let there : place ≡ length kinds + (place - length kinds) = omega (arith, le) in
        inl (tops_unknown n (place - length kinds) kind (sym (get_right kinds (kinds_after false (replicate n Top)) place (place - length kinds) there) ∙ e))

initial_says : (w : List Shape) (id : MethodId) (max_locals : ℕ) (frame : Frame) (i : IsInitialFrame w id max_locals frame) → SaysNoMore (kinds_of frame) (entry_words i.entry.method)
initial_says w id max_locals frame i =
    let words : List VType = in_words i.types in
    let tops : ℕ = max_locals - length words in
    let method = i.entry.method in
    let kinds : kinds_after false words ≡ (entry_words method).locals =
    ap (λ (types : List VType). kinds_after false (in_words types)) i.entry.are ∙ entry_kinds i.entry.class.name method.desc.params (is_static method) (begins_uninit i.entry.class.name method) in
    let joined : kinds_after false (words ++ replicate tops Top) ≡ (entry_words method).locals ++ kinds_after false (replicate tops Top) =
    kinds_join false words (replicate tops Top) (in_words_formed i.types (entry_holds w id i.types i.entry)) ∙ ap (λ (ks : List WordKind). ks ++ kinds_after false (replicate tops Top)) kinds in
    let says : SaysOnly (kinds_after false (words ++ replicate tops Top)) (entry_words method).locals =
    subst (λ (ks : List WordKind). SaysOnly ks (entry_words method).locals) (sym joined) (padded_says (entry_words method).locals tops) in
    subst (λ (f : Frame). SaysNoMore (kinds_of f) (entry_words method)) (sym i.is) (record { locals = says; stack = λ place kind e. absurd cc; depth = refl })

-- ---- where an instruction goes

fits_at : (w : List Shape) (frames : List (ℕ × Frame)) (pc : ℕ) (frame : Frame) (said : Words WordKind) → IsFormed frame → SaysNoMore (kinds_of frame) said → FitsThere w (λ place there. at_offset place frames ≡ Some there) pc frame → FitsAt frames pc said
fits_at w frames pc frame said f says there = record {
  frame = there.0;
  stands = there.1;
  fits = no_more_through (kinds_of there.0) (kinds_of frame) said (assignable_says w frame there.0 f there.2) says;
}

falls_on : (end : Bool) → IsTrue (not end) → end ≡ false
falls_on true n = absurd cc
falls_on false n = refl

same_kinds : (said : Words WordKind) → SaysNoMore said said
same_kinds said = record { locals = λ place kind e. inr e; stack = λ place kind e. inr e; depth = refl }

handler_formed : (frame : Frame) (handler : Handler) → IsFormed frame → IsFormed (handler_frame frame handler)
handler_formed frame handler f = record { locals = f.locals; stack = refl }

-- ---- what an instruction finds

no_cells : (insn : Insn) (frame : Frame) → (effect_of insn).takes ≡ [] → EndsWithCells (effect_of insn).takes frame.stack
no_cells insn frame e = record { below = frame.stack; top = []; whole = sym (append-nil frame.stack); holds = subst (λ (cs : List Cell). HoldsCells cs []) (sym e) refl }

finds_cells : (insn : Insn) (frame after : Frame) → IsStepOf insn frame after → EndsWithCells (effect_of insn).takes frame.stack
finds_cells insn frame after (by_cells step) = step.takes
finds_cells insn frame after (by_replacing between step r) = step.takes
finds_cells insn frame after (by_moving max_stack takes reads store inc m) = no_cells insn frame takes

finds_locals : (insn : Insn) (frame after : Frame) → IsStepOf insn frame after → All (LocalHolds frame) (effect_of insn).reads
finds_locals insn frame after (by_cells step) = step.reads
finds_locals insn frame after (by_replacing between step r) = step.reads
finds_locals insn frame after (by_moving max_stack takes reads store inc m) = subst (λ (rs : List (ℕ × Cell)). All (LocalHolds frame) rs) (sym reads) (λ k d lt. absurd (omega arith))

finds_words : (insn : Insn) (frame after : Frame) → IsStepOf insn frame after → HasWords (effect_of insn).shuffle (length frame.stack)
finds_words insn frame after (by_cells step) = subst (λ (s : Option Shuffle). HasWords s (length frame.stack)) (sym step.alone) tt
finds_words insn frame after (by_replacing between step r) = subst (λ (s : Option Shuffle). HasWords s (length frame.stack)) (sym step.alone) tt
finds_words insn frame after (by_moving max_stack takes reads store inc m) =
    let long : length frame.stack ≡ length m.below + length m.top = ap length m.whole ∙ length-append m.below m.top in
    subst (λ (s : Option Shuffle). HasWords s (length frame.stack)) (sym m.moves) (omega (arith, long, m.count))

word_known : (o : Option OpForm) (row : OpForm) → o ≡ Some row → row.kind ≡ kinds.Word → HasEffect o
word_known None row e word = absurd cc
word_known (Some own) row e word = λ outside. let same : own ≡ row = cc in let wrong : kinds.Word ≡ kinds.Outside = sym word ∙ sym (ap (λ (r : OpForm). r.kind) same) ∙ outside in absurd cc

step_known : (w : List Shape) (framed : FramedBody) (pc : ℕ) (frame : Frame) (insn : Insn) (after : Frame) → StepTyping w (site_at framed.method framed.body pc) frame insn after → HasEffect (op_row insn.op)
step_known w framed pc frame insn after (words h) = word_known (op_row insn.op) h.is_word.row h.is_word.stands h.is_word.half
step_known w framed pc frame insn after (references h) = rule_is_known insn h.rule h.stands

-- ---- one instruction

kind_safe_at : (w : List Shape) (framed : FramedBody) (maps : List (ℕ × Frame)) (shape : MethodShape) (pc : ℕ) (insn : Insn) (frame : Frame) → IsMethod w framed.method shape → IsFormed frame
    → IsTypedAt w framed.method framed.body maps framed.frames pc insn frame → IsKindSafeAt (result_cells shape.desc.result) framed pc insn frame
kind_safe_at w framed maps shape pc insn frame method f typed =
    let site = site_at framed.method framed.body pc in
    let after = typed.after in
    let step = step_of w site frame insn after typed.operands f typed.typing in
    let formed = step_formed insn frame after step f in
    let says = step_says insn frame after typed.operands f step in
    record {
      known = step_known w framed pc frame insn after typed.typing;
      operands = typed.operands;
      takes = finds_cells insn frame after step;
      moves = finds_words insn frame after step;
      reads = finds_locals insn frame after step;
      returns = λ r. step_returns w site frame insn after shape method typed.operands typed.typing r;
      falls = λ on.
          let next = typed.goes.falls (falls_on (is_end insn.op) on) in
          record { next = next.0; follows = next.1; fits = fits_at w framed.frames next.0 after (kinds_left insn (kinds_of frame)) formed says next.2 };
      jumps = λ target to. fits_at w framed.frames target after (kinds_left insn (kinds_of frame)) formed says (typed.goes.jumps target to);
      throws = λ handler in_table covers.
          let there = (typed.goes.throws handler in_table covers).fits in
          fits_at w framed.frames handler.target (handler_frame frame handler) (kinds_of (handler_frame frame handler)) (handler_formed frame handler f) (same_kinds (kinds_of (handler_frame frame handler))) there;
    }

-- ---- the method

pub kind_safe : (w : List Shape) (framed : FramedBody) (maps : List (ℕ × Frame)) → AreMapsOf w framed.method framed.body maps → IsTypeSafe w framed.method framed.body maps framed.frames → IsKindSafe w framed
kind_safe w framed maps m safe =
    let begins = safe.begins in
    let entry = begins.is_initial.entry in
    let id = framed.method in
    let method : IsMethod w id entry.method = (entry.class, entry.class_at, entry.method_at) in
    let first_formed = initial_formed w id framed.body.max_locals begins.initial begins.is_initial in
    let said = initial_says w id framed.body.max_locals begins.initial begins.is_initial in
    let less = assignable_says w begins.initial begins.first first_formed begins.fits in
    record {
      shape = entry.method;
      declared = ap (option_and_then (λ (s : Shape). slice_get s.methods id.index)) entry.class_at ∙ entry.method_at;
      one_each = safe.one_each;
      entry = record { frame = begins.first; stands = begins.stands; fits = no_more_through (kinds_of begins.first) (kinds_of begins.initial) (entry_words entry.method) less said };
      each = λ pc insn frame at stands. kind_safe_at w framed maps entry.method pc insn frame method (table_formed w framed pc frame maps m safe stands) (safe.each pc insn frame at stands);
    }
