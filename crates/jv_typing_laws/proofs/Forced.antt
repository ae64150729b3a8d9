-- The frames that are forced: one at each offset, and all those of a table.
use Rattle.std.proofs.Common.{◌≡◌, ℕ, zero, suc, ◌+◌, ◌<◌, Bool, true, false, List, [], ◌∷◌, Option, Some, None, refl, sym, ap, ◌∙◌, subst, arith}
use Rattle.std.specs.Prelude.{IsSome, nat_le}
use Rattle.std.proofs.lemmas.Bool.Decides.{nat_tests}
use Rattle.jv_lists.proofs.Tests.{value_of}
use Rattle.jv_types.specs.Bodies.{at_offset, rises_from, IsStart, IsNextStart}
use Rattle.jv_types.specs.declared.ids.MethodId.{MethodId}
use Rattle.jv_types.specs.declared.shapes.Shape.{Shape}
use Rattle.jv_types.specs.declared.instruction.Insn.{Insn}
use Rattle.jv_types.specs.declared.body.Body.{Body}
use Rattle.jv_types.specs.declared.frames.VType.{VType}
use Rattle.jv_types.specs.declared.frames.Frame.{Frame}
use Rattle.jv_pool.specs.declared.item.PoolItem.{PoolItem}
use Rattle.jv_attr.specs.declared.frame.MapFrame.{MapFrame}
use Rattle.jv_insn.specs.Effects.{is_end}
use Rattle.jv_names.proofs.NamedOnce.{given_twice}
use Rattle.jv_frames.specs.Maps.{frame_delta, AreMapFrames}
use Rattle.jv_typing.specs.Steps.{StepTyping}
use Rattle.jv_typing.specs.TypeSafe.{site_at, IsTypedAt, IsTypeSafe, IsForced, first, by_map, left}
use Rattle.jv_typing_laws.proofs.OneFrame.{one_step, one_initial}
use Rattle.jv_typing_laws.proofs.Rows.{key_start, starts_by, nothing_starts, same_rows, start_before, one_before, keys_rise}

-- ---- one at each offset

none_is_no_some : (o : Option Frame) (frame : Frame) → o ≡ None → o ≡ Some frame → ⊥
none_is_no_some o frame e f = absurd cc

at_zero : (maps : List (ℕ × Frame)) (pc : ℕ) → pc ≡ 0 → at_offset 0 maps ≡ None → at_offset pc maps ≡ None
at_zero maps pc e none = rw e none

pub one_forced : (w : List Shape) (method : MethodId) (body : Body) (maps : List (ℕ × Frame)) (pc : ℕ) (a b : Frame) → IsForced w method body maps pc a → IsForced w method body maps pc b → a ≡ b
one_forced w method body maps pc a b (first _ _ z n i) (first _ _ z' n' i') = one_initial w method body.max_locals a b i i'
one_forced w method body maps pc a b (first _ _ z n i) (by_map _ _ s) = absurd (none_is_no_some (at_offset pc maps) b (at_zero maps pc z n) s)
one_forced w method body maps pc a b (first _ _ z n i) (left before' _ insn' frame' _ f' at' e' next' n' t') = absurd (let above : before' < pc = next'.above in omega arith)
one_forced w method body maps pc a b (by_map _ _ s) (first _ _ z' n' i') = absurd (none_is_no_some (at_offset pc maps) a (at_zero maps pc z' n') s)
one_forced w method body maps pc a b (by_map _ _ s) (by_map _ _ s') = given_twice (at_offset pc maps) a b s s'
one_forced w method body maps pc a b (by_map _ _ s) (left before' _ insn' frame' _ f' at' e' next' n' t') = absurd (none_is_no_some (at_offset pc maps) a n' s)
one_forced w method body maps pc a b (left before _ insn frame _ f at e next n t) (first _ _ z' n' i') = absurd (let above : before < pc = next.above in omega arith)
one_forced w method body maps pc a b (left before _ insn frame _ f at e next n t) (by_map _ _ s') = absurd (none_is_no_some (at_offset pc maps) b n s')
one_forced w method body maps pc a b (left before _ insn frame _ f at e next n t) (left before' _ insn' frame' _ f' at' e' next' n' t') =
    let place : before' ≡ before = one_before body.insns before' before pc (starts_by (at_offset before' body.insns) insn' at') (starts_by (at_offset before body.insns) insn at) next' next in
    let there : at_offset before body.insns ≡ Some insn' = subst (λ (k : ℕ). at_offset k body.insns ≡ Some insn') place at' in
    let instruction : insn' ≡ insn = given_twice (at_offset before body.insns) insn' insn there at in
    let frames : frame' ≡ frame = sym (one_forced w method body maps before frame frame' f (subst (λ (k : ℕ). IsForced w method body maps k frame') place f')) in
    let moved : StepTyping w (site_at method body before) frame' insn' b = subst (λ (k : ℕ). StepTyping w (site_at method body k) frame' insn' b) place t' in
    let typed : StepTyping w (site_at method body before) frame' insn b = subst (λ (i : Insn). StepTyping w (site_at method body before) frame' i b) instruction moved in
    one_step w (site_at method body before) frame insn a b t (subst (λ (g : Frame). StepTyping w (site_at method body before) g insn b) frames typed)

-- ---- all of a table

-- an instruction stands where a frame does, and the other way round
insn_at : (w : List Shape) (method : MethodId) (body : Body) (maps frames : List (ℕ × Frame)) (pc : ℕ) → IsTypeSafe w method body maps frames → IsStart frames pc → IsStart body.insns pc
insn_at w method body maps frames pc safe s = key_start frames body.insns pc safe.one_each s

frame_at : (w : List Shape) (method : MethodId) (body : Body) (maps frames : List (ℕ × Frame)) (pc : ℕ) → IsTypeSafe w method body maps frames → IsStart body.insns pc → IsStart frames pc
frame_at w method body maps frames pc safe s = key_start body.insns frames pc (sym safe.one_each) s

-- the frame where no map stands and that isn't the first is what the instruction before leaves
forced_behind : (w : List Shape) (method : MethodId) (body : Body) (maps frames : List (ℕ × Frame)) (before pc : ℕ) (insn : Insn) (from frame : Frame) → IsForced w method body maps before from
    → at_offset before body.insns ≡ Some insn → IsNextStart before body.insns pc → at_offset pc maps ≡ None → at_offset pc frames ≡ Some frame → IsTypedAt w method body maps frames before insn from
    → (end : Bool) → is_end insn.op ≡ end → IsForced w method body maps pc frame
forced_behind w method body maps frames before pc insn from frame forced at next none stands typed true is =
    absurd (nothing_starts (at_offset pc maps) none (typed.ends pc is next))
forced_behind w method body maps frames before pc insn from frame forced at next none stands typed false is =
    let same : typed.after ≡ frame = given_twice (at_offset pc frames) typed.after frame (typed.same pc is next none) stands in
    subst (λ (f : Frame). IsForced w method body maps pc f) same (left before pc insn from typed.after forced at is next none typed.typing)

forced_by : (w : List Shape) (method : MethodId) (body : Body) (maps frames : List (ℕ × Frame)) (pc : ℕ) (frame : Frame) → IsTypeSafe w method body maps frames
    → ((before : ℕ) (from : Frame) → before < pc → at_offset before frames ≡ Some from → IsForced w method body maps before from)
    → at_offset pc frames ≡ Some frame → (map : Option Frame) → at_offset pc maps ≡ map → IsForced w method body maps pc frame
forced_by w method body maps frames pc frame safe earlier stands (Some own) is =
    let same : own ≡ frame = given_twice (at_offset pc frames) own frame (safe.maps_are pc own is) stands in
    subst (λ (f : Frame). IsForced w method body maps pc f) same (by_map pc own is)
forced_by w method body maps frames zero frame safe earlier stands None is =
    let begins = safe.begins in
    let one : begins.first ≡ frame = given_twice (at_offset 0 frames) begins.first frame begins.stands stands in
    let same : begins.initial ≡ frame = sym (begins.same is) ∙ one in
    subst (λ (f : Frame). IsForced w method body maps zero f) same (first zero begins.initial refl is begins.is_initial)
forced_by w method body maps frames (suc pc) frame safe earlier stands None is =
    let begin : IsStart body.insns 0 = insn_at w method body maps frames 0 safe (starts_by (at_offset 0 frames) safe.begins.first safe.begins.stands) in
    let here : IsStart body.insns (suc pc) = insn_at w method body maps frames (suc pc) safe (starts_by (at_offset (suc pc) frames) frame stands) in
    let before = start_before body.insns (suc pc) begin (omega arith) here in
    let insn = value_of (at_offset before.start body.insns) before.starts in
    let from = value_of (at_offset before.start frames) (frame_at w method body maps frames before.start safe before.starts) in
    let forced = earlier before.start from.0 before.next.above from.1 in
    forced_behind w method body maps frames before.start (suc pc) insn.0 from.0 frame forced insn.1 before.next is stands (safe.each before.start insn.0 from.0 insn.1 from.1) (is_end insn.0.op) refl

forced_below : (w : List Shape) (method : MethodId) (body : Body) (maps frames : List (ℕ × Frame)) (n pc : ℕ) (frame : Frame) → IsTypeSafe w method body maps frames → pc < n
    → at_offset pc frames ≡ Some frame → IsForced w method body maps pc frame
forced_below w method body maps frames zero pc frame safe lt stands = absurd (omega arith)
forced_below w method body maps frames (suc n) pc frame safe lt stands =
    forced_by w method body maps frames pc frame safe (λ before from less at. forced_below w method body maps frames n before from safe (omega arith) at) stands (at_offset pc maps) refl

pub all_forced : (w : List Shape) (method : MethodId) (body : Body) (maps frames : List (ℕ × Frame)) (pc : ℕ) (frame : Frame) → IsTypeSafe w method body maps frames → at_offset pc frames ≡ Some frame
    → IsForced w method body maps pc frame
all_forced w method body maps frames pc frame safe stands = forced_below w method body maps frames (suc pc) pc frame safe (omega arith) stands

-- ---- one table

same_at : (w : List Shape) (method : MethodId) (body : Body) (maps a b : List (ℕ × Frame)) (pc : ℕ) → IsTypeSafe w method body maps a → IsTypeSafe w method body maps b → at_offset pc a ≡ at_offset pc b
same_at w method body maps a b pc x y = by (at_offset pc a) refl (at_offset pc b) refl
  where
    apart : (o p : Option Frame) (f : Frame) → o ≡ Some f → p ≡ None → (IsSome o → IsSome p) → ⊥
    apart o p f e g more = nothing_starts p g (more (starts_by o f e))

    by : (o : Option Frame) → at_offset pc a ≡ o → (p : Option Frame) → at_offset pc b ≡ p → o ≡ p
    by None e None g = refl
    by (Some f) e (Some h) g = ap Some (one_forced w method body maps pc f h (all_forced w method body maps a pc f x e) (all_forced w method body maps b pc h y g))
    by (Some f) e None g = absurd (apart (at_offset pc a) (at_offset pc b) f e g (λ s. frame_at w method body maps b pc y (insn_at w method body maps a pc x s)))
    by None e (Some h) g = absurd (apart (at_offset pc b) (at_offset pc a) h g e (λ s. frame_at w method body maps a pc x (insn_at w method body maps b pc y s)))

pub one_table : (w : List Shape) (method : MethodId) (body : Body) (maps a b : List (ℕ × Frame)) → IsTypeSafe w method body maps a → IsTypeSafe w method body maps b → a ≡ b
one_table w method body maps a b x y =
    same_rows 0 a b (x.one_each ∙ sym y.one_each) (keys_rise 0 body.insns a (sym x.one_each) body.rising) (λ pc. same_at w method body maps a b pc x y)

-- ---- maps

pub maps_rise : (pool : List PoolItem) (body : Body) (base : ℕ) (before : List VType) (written : List MapFrame) (rows : List (ℕ × Frame)) → AreMapFrames pool body base before written rows → rises_from base rows ≡ true
maps_rise pool body base before [] rows h = rw h refl
maps_rise pool body base before (f ∷ written) rows h =
    let rest : rises_from (base + frame_delta f + 1) h.2 ≡ true = maps_rise pool body (base + frame_delta f + 1) h.0 written h.2 h.5 in
    let head : nat_le base (base + frame_delta f) ≡ true = grind (arith, nat_tests) in
    rw (h.4, head, rest) refl
