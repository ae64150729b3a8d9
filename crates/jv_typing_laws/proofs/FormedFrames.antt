-- The forced frames of a method are formed: the first one, those of its map, and what each instruction leaves.
use Rattle.std.proofs.Common.{◌≡◌, ℕ, ◌+◌, ◌-◌, Bool, true, false, cond, if◌then◌else◌, List, [], ◌∷◌, ◌++◌, length, map, replicate, Option, Some, None, refl, sym, ap, ◌∙◌, subst, ◌⊎◌, inl, inr}
use Rattle.std.specs.Prelude.{MatchOption, eqb}
use Rattle.std.specs.List.{AllZip, list_all}
use Rattle.std.proofs.lemmas.Bool.{and_parts}
use Rattle.jv_lists.proofs.Tests.{both_true}
use Rattle.jv_table.specs.declared.class_tables.FrameGroup.{FrameGroup}
use Rattle.jv_table.specs.declared.class_tables.FrameGroup.TheVariants.{Same, SameOne, SameOneExtended, Chop, SameExtended, Append, Full}
use Rattle.jv_types.specs.Bodies.{at_offset}
use Rattle.jv_types.specs.declared.ids.MethodId.{MethodId}
use Rattle.jv_types.specs.declared.shapes.Shape.{Shape}
use Rattle.jv_types.specs.declared.instruction.Insn.{Insn}
use Rattle.jv_types.specs.declared.body.Body.{Body}
use Rattle.jv_types.specs.declared.frames.VType.{VType, Top, UninitThis, Class}
use Rattle.jv_types.specs.declared.frames.Frame.{Frame}
use Rattle.jv_pool.specs.declared.item.PoolItem.{PoolItem}
use Rattle.jv_attr.specs.declared.frame.MapType.{MapType}
use Rattle.jv_attr.specs.declared.frame.MapFrame.{MapFrame}
use Rattle.jv_attr.specs.FrameText.{group_of}
use Rattle.jv_insn.specs.Effects.{effect_of, is_store, local_of}
use Rattle.jv_insn.specs.Forms.{HasOwnOperands}
use Rattle.jv_insn.proofs.Tables.{row_passes}
use Rattle.jv_frames.specs.Types.{in_words, frame_of, desc_vtype}
use Rattle.jv_frames.specs.Entry.{is_static, begins_uninit, receiver_types, AreEntryTypes, IsInitialFrame}
use Rattle.jv_frames.specs.Maps.{plain_types, plain_type, IsNumbered, object, uninit, IsTypeOf, IsFront, AreLocalsIn, frame_delta, AreMapFrames}
use Rattle.jv_typing.specs.Typing.{in_order, StoresWhere}
use Rattle.jv_typing.specs.Transitions.{AreReplaced}
use Rattle.jv_typing.specs.TypeSafe.{site_at, AreMapsOf, IsForced, first, by_map, left}
use Rattle.jv_typing_laws.specs.Formed.{holds_references, are_formed, IsFormed}
use Rattle.jv_typing_laws.proofs.FormedWords.{join, front, behind, in_words_formed, tops_formed, descs_hold, ref_vtype_holds, cells_begin, whole_formed, whole_begins, order_holds, replaced_formed, stored_formed}
use Rattle.jv_typing_laws.proofs.CellSteps.{IsCellStep, IsStepOf, by_cells, by_replacing, by_moving, step_of}

-- ---- after an instruction

locals_formed : (stores : Bool) (local : ℕ) (words locals after : List VType) → StoresWhere stores local words locals after → are_formed false words ≡ true → are_formed false locals ≡ true → are_formed false after ≡ true
locals_formed true local words locals after s w f = stored_formed local words locals after s w f
locals_formed false local words locals after s w f = ap (are_formed false) s ∙ f

pub cell_formed : (insn : Insn) (frame after : Frame) → IsCellStep insn frame after → IsFormed frame → IsFormed after
cell_formed insn frame after step f =
    let whole : are_formed false (step.takes.below ++ step.takes.top) ≡ true = ap (are_formed false) (sym step.takes.whole) ∙ f.stack in
    let below = front false step.takes.below step.takes.top (cells_begin (effect_of insn).takes step.takes.top step.takes.holds) whole in
    record {
      locals = locals_formed (is_store insn.op) (local_of insn.op insn.arg) step.takes.top frame.locals after.locals step.locals (behind false step.takes.below step.takes.top whole) f.locals;
      stack = ap (are_formed false) step.stack ∙ join false step.takes.below step.given below step.formed;
    }

pub step_formed : (insn : Insn) (frame after : Frame) → IsStepOf insn frame after → IsFormed frame → IsFormed after
step_formed insn frame after (by_cells step) f = cell_formed insn frame after step f
step_formed insn frame after (by_replacing between step r) f =
    let g = cell_formed insn frame between step f in
    record { locals = replaced_formed false r.old r.new between.locals after.locals r.may g.locals r.locals; stack = by r.stack g.stack }
  where
    by : AreReplaced r.old r.new between.stack after.stack ⊎ (after.stack ≡ between.stack) → are_formed false between.stack ≡ true → are_formed false after.stack ≡ true
    by (inl h) g = replaced_formed false r.old r.new between.stack after.stack r.may g h
    by (inr h) g = ap (are_formed false) h ∙ g
step_formed insn frame after (by_moving max_stack takes reads store inc m) f =
    let whole : are_formed false (m.below ++ m.top) ≡ true = ap (are_formed false) (sym m.whole) ∙ f.stack in
    let below = front false m.below m.top (whole_begins m.top m.values) whole in
    let words = in_order m.shuffle.order m.top in
    let moved = whole_formed false words m.values_after (order_holds m.shuffle.order m.top (behind false m.below m.top whole)) in
    record { locals = ap (are_formed false) m.locals ∙ f.locals; stack = ap (are_formed false) m.stack ∙ join false m.below words below moved }

-- ---- types that hold references

all_join : (xs ys : List VType) → list_all holds_references xs ≡ true → list_all holds_references ys ≡ true → list_all holds_references (xs ++ ys) ≡ true
all_join [] ys h k = k
all_join (x ∷ xs) ys h k =
    let parts = and_parts (holds_references x) (list_all holds_references xs) h in
    both_true (holds_references x) (list_all holds_references (xs ++ ys)) parts.0 (all_join xs ys parts.1 k)

all_front : (xs ys : List VType) → list_all holds_references (xs ++ ys) ≡ true → list_all holds_references xs ≡ true
all_front [] ys h = refl
all_front (x ∷ xs) ys h =
    let parts = and_parts (holds_references x) (list_all holds_references (xs ++ ys)) h in
    both_true (holds_references x) (list_all holds_references xs) parts.0 (all_front xs ys parts.1)

frame_formed : (max_locals : ℕ) (locals stack : List VType) → list_all holds_references locals ≡ true → list_all holds_references stack ≡ true → IsFormed (frame_of max_locals locals stack)
frame_formed max_locals locals stack l s = record {
  locals = join false (in_words locals) (replicate (max_locals - length (in_words locals)) Top) (in_words_formed locals l) (tops_formed (max_locals - length (in_words locals)));
  stack = in_words_formed stack s;
}

-- ---- the first frame

receiver_holds : (class : List ℕ) (static begins : Bool) → list_all holds_references (if static then [] else (if begins then UninitThis else Class class) ∷ []) ≡ true
receiver_holds class true begins = refl
receiver_holds class false true = refl
receiver_holds class false false = refl

pub entry_holds : (w : List Shape) (id : MethodId) (types : List VType) → AreEntryTypes w id types → list_all holds_references types ≡ true
entry_holds w id types e =
    ap (list_all holds_references) e.are
    ∙ all_join (receiver_types e.class.name e.method) (map desc_vtype e.method.desc.params) (receiver_holds e.class.name (is_static e.method) (begins_uninit e.class.name e.method)) (descs_hold e.method.desc.params)

pub initial_formed : (w : List Shape) (id : MethodId) (max_locals : ℕ) (frame : Frame) → IsInitialFrame w id max_locals frame → IsFormed frame
initial_formed w id max_locals frame i = subst IsFormed (sym i.is) (frame_formed max_locals i.types [] (entry_holds w id i.types i.entry) refl)

-- ---- the frames of a map

abbrev plain_holds : ℕ × VType → Bool
plain_holds row = holds_references row.1

all_plain_hold : list_all plain_holds plain_types ≡ true
all_plain_hold = refl

numbered_holds : (pool : List PoolItem) (t : MapType) (type : VType) → IsNumbered pool t type → holds_references type ≡ true
numbered_holds pool t type (object of tag names is) = ap holds_references is ∙ ref_vtype_holds of
numbered_holds pool t type (uninit tag is) = ap holds_references is

written_holds : (pool : List PoolItem) (t : MapType) (type : VType) → IsTypeOf pool t type → holds_references type ≡ true
written_holds pool t type is = by (plain_type t.tag) refl is
  where
    by : (o : Option VType) → plain_type t.tag ≡ o → MatchOption o (IsNumbered pool t type) (λ plain. type ≡ plain) → holds_references type ≡ true
    by None e h = numbered_holds pool t type h
    by (Some plain) e h = ap holds_references h ∙ row_passes plain_holds plain_types t.tag plain all_plain_hold e

all_written_hold : (pool : List PoolItem) (written : List MapType) (types : List VType) → AllZip (IsTypeOf pool) written types → list_all holds_references types ≡ true
all_written_hold pool [] [] z = refl
all_written_hold pool [] (type ∷ types) z = absurd z
all_written_hold pool (t ∷ written) [] z = absurd z
all_written_hold pool (t ∷ written) (type ∷ types) z =
    both_true (holds_references type) (list_all holds_references types) (written_holds pool t type z.0) (all_written_hold pool written types z.1)

front_holds : (before : List VType) (count : ℕ) (locals : List VType) → IsFront before count locals → list_all holds_references before ≡ true → list_all holds_references locals ≡ true
front_holds before count locals i h = all_front locals i.0 (ap (list_all holds_references) (sym i.1) ∙ h)

locals_hold : (pool : List PoolItem) (before : List VType) (f : MapFrame) (g : Option FrameGroup) (locals : List VType) → AreLocalsIn g pool before f locals → list_all holds_references before ≡ true → list_all holds_references locals ≡ true
locals_hold pool before f None locals a h = absurd a
locals_hold pool before f (Some Same) locals a h = ap (list_all holds_references) a ∙ h
locals_hold pool before f (Some SameOne) locals a h = ap (list_all holds_references) a ∙ h
locals_hold pool before f (Some SameOneExtended) locals a h = ap (list_all holds_references) a ∙ h
locals_hold pool before f (Some SameExtended) locals a h = ap (list_all holds_references) a ∙ h
locals_hold pool before f (Some Chop) locals a h = front_holds before (251 - f.kind) locals a h
locals_hold pool before f (Some Append) locals a h = ap (list_all holds_references) a.2 ∙ all_join before a.0 h (all_written_hold pool f.locals a.0 a.1)
locals_hold pool before f (Some Full) locals a h = all_written_hold pool f.locals locals a

map_frame_formed : (pool : List PoolItem) (body : Body) (base : ℕ) (before : List VType) (written : List MapFrame) (rows : List (ℕ × Frame)) (pc : ℕ) (frame : Frame) → list_all holds_references before ≡ true
    → AreMapFrames pool body base before written rows → at_offset pc rows ≡ Some frame → IsFormed frame
map_frame_formed pool body base before [] rows pc frame h maps at =
    absurd (let none : at_offset pc [] ≡ Some frame = subst (λ (rs : List (ℕ × Frame)). at_offset pc rs ≡ Some frame) maps at in absurd cc)
map_frame_formed pool body base before (f ∷ written) rows pc frame h maps at =
    let locals = locals_hold pool before f (group_of f.kind) maps.0 maps.3.types.locals_are h in
    let stack = all_written_hold pool f.stack maps.1 maps.3.types.stack_is in
    let row : ℕ × Frame = (base + frame_delta f, frame_of body.max_locals maps.0 maps.1) in
    let there : at_offset pc (row ∷ maps.2) ≡ Some frame = subst (λ (rs : List (ℕ × Frame)). at_offset pc rs ≡ Some frame) maps.4 at in
    by (eqb (base + frame_delta f) pc) there (frame_formed body.max_locals maps.0 maps.1 locals stack) (map_frame_formed pool body (base + frame_delta f + 1) maps.0 written maps.2 pc frame locals maps.5)
  where
    by : (b : Bool) → cond b (Some (frame_of body.max_locals maps.0 maps.1)) (at_offset pc maps.2) ≡ Some frame → IsFormed (frame_of body.max_locals maps.0 maps.1) → (at_offset pc maps.2 ≡ Some frame → IsFormed frame) → IsFormed frame
    by true e own more = let same : frame_of body.max_locals maps.0 maps.1 ≡ frame = cc in subst IsFormed same own
    by false e own more = more e

pub maps_formed : (w : List Shape) (method : MethodId) (body : Body) (maps : List (ℕ × Frame)) (pc : ℕ) (frame : Frame) → AreMapsOf w method body maps → at_offset pc maps ≡ Some frame → IsFormed frame
maps_formed w method body maps pc frame m at = map_frame_formed m.pool body 0 m.types m.written maps pc frame (entry_holds w method m.types m.entry) m.frames at

-- ---- forced frames

pub forced_formed : (w : List Shape) (method : MethodId) (body : Body) (maps : List (ℕ × Frame)) (pc : ℕ) (frame : Frame) → AreMapsOf w method body maps
    → ((pc : ℕ) (insn : Insn) → at_offset pc body.insns ≡ Some insn → HasOwnOperands insn) → IsForced w method body maps pc frame → IsFormed frame
forced_formed w method body maps pc frame m own (first _ _ zero none is) = initial_formed w method body.max_locals frame is
forced_formed w method body maps pc frame m own (by_map _ _ at) = maps_formed w method body maps pc frame m at
forced_formed w method body maps pc frame m own (left before _ insn from _ forced at end next none typing) =
    let f = forced_formed w method body maps before from m own forced in
    step_formed insn from frame (step_of w (site_at method body before) from insn frame (own before insn at) f typing) f
