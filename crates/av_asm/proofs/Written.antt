-- A code attribute that is written.
use Rattle.std.proofs.Common.{◌≡◌, ℕ, ◌≤◌, true, List, [], ◌∷◌, length, map, Option, None, Some, refl, sym, ap, subst, ◌∙◌}
use Rattle.std.specs.List.{AllByRecursion, AllZip}
use Rattle.std.specs.Prelude.{codes}
use Rattle.std.specs.declared.convert.Infallible.{Infallible as NoCode}
use Rattle.jv_types.specs.Bodies.{rises_from, IsStart}
use Rattle.jv_types.specs.declared.raw_handler.RawHandler.{RawHandler}
use Rattle.jv_types.specs.declared.body.Body.{Body}
use Rattle.jv_types.specs.declared.body.Handler.{Handler}
use Rattle.jv_types.specs.declared.frames.VType.{VType}
use Rattle.jv_types.specs.declared.frames.Frame.{Frame}
use Rattle.jv_types.specs.declared.frames.FramedBody.{FramedBody}
use Rattle.jv_pool.specs.declared.item.PoolItem.{PoolItem}
use Rattle.jv_pool.specs.declared.item.PoolItem.TheVariants.{Utf8}
use Rattle.jv_attr.specs.declared.attr.Attr.{Attr}
use Rattle.jv_attr.specs.declared.attr.AttrBody.TheVariants.{Maps}
use Rattle.jv_attr.specs.declared.attr.CodeAttr.{CodeAttr}
use Rattle.jv_read.specs.Reading.{◌>>=◌}
use Rattle.jv_read.proofs.Fronts.{bind_is, bind_some, given_as}
use Rattle.jv_insn.specs.Entries.{put_all, put_item, Grows}
use Rattle.jv_insn.specs.Decoding.{Catches, Decodes}
use Rattle.jv_insn.specs.Encoding.{insns_text, NamesHandler, DecodesTo}
use Rattle.jv_insn.proofs.Placed.{grows_on}
use Rattle.jv_frames.specs.Maps.{AreMapFrames, written_frames}
use Rattle.av_asm.specs.Mapping.{put_each, put_frame, deltas_from, put_maps}
use Rattle.av_asm.specs.Planning.{is_among, targets_in, frames_where, Plan, plan_in, target_frames}
use Rattle.av_asm.specs.Finishing.{raw_of, code_of, IsCodeOf, HasMaps, IsFullFrame, MayWrite}
use Rattle.av_asm.proofs.Marks.{filtered_rise}
use Rattle.av_asm.proofs.Mapped.{frames_written}
use Rattle.av_asm.proofs.Planned.{filtered}

-- ---- the attribute

abbrev attr_of : Plan → List PoolItem → List (Attr NoCode) → CodeAttr
attr_of plan coded attrs = record {
  max_stack = plan.max_stack;
  max_locals = plan.max_locals;
  code = insns_text coded plan.insns;
  handlers = map raw_of plan.handlers;
  attrs = attrs;
}

pub code_is : (plan : Plan) (old coded new : List PoolItem) (attrs : List (Attr NoCode)) (code : List ℕ) (handlers : List RawHandler) (made : CodeAttr) → put_all plan.insns old ≡ Some coded
    → put_maps (target_frames plan) coded ≡ Some (attrs, new) → code ≡ insns_text coded plan.insns → handlers ≡ map raw_of plan.handlers
    → made ≡ record { max_stack = plan.max_stack; max_locals = plan.max_locals; code = code; handlers = handlers; attrs = attrs } → code_of plan old ≡ Some (made, new)
code_is plan old coded new attrs code handlers made put maps text raws is =
    bind_is (put_all plan.insns old) (λ mid. put_maps (target_frames plan) mid >>= λ m. Some (attr_of plan mid m.0, m.1)) coded put
    ∙ bind_is (put_maps (target_frames plan) coded) (λ m. Some (attr_of plan coded m.0, m.1)) (attrs, new) maps
    ∙ ap (λ (a : CodeAttr). let r : CodeAttr × List PoolItem = (a, new) in Some r) (sym whole)
  where
    whole : made ≡ attr_of plan coded attrs
    whole =
        is ∙ ap (λ (c : List ℕ). let a : CodeAttr = record { max_stack = plan.max_stack; max_locals = plan.max_locals; code = c; handlers = handlers; attrs = attrs } in a) text
        ∙ ap (λ (h : List RawHandler). let a : CodeAttr = record { max_stack = plan.max_stack; max_locals = plan.max_locals; code = insns_text coded plan.insns; handlers = h; attrs = attrs } in a) raws

pub code_full : (plan : Plan) (old : List PoolItem) → put_all plan.insns old ≡ None → code_of plan old ≡ None
code_full plan old none = ap (λ (o : Option (List PoolItem)). o >>= λ mid. put_maps (target_frames plan) mid >>= λ m. Some (attr_of plan mid m.0, m.1)) none

pub maps_full : (plan : Plan) (old coded : List PoolItem) → put_all plan.insns old ≡ Some coded → put_maps (target_frames plan) coded ≡ None → code_of plan old ≡ None
maps_full plan old coded put none =
    bind_is (put_all plan.insns old) (λ mid. put_maps (target_frames plan) mid >>= λ m. Some (attr_of plan mid m.0, m.1)) coded put
    ∙ ap (λ (o : Option (List (Attr NoCode) × List PoolItem)). o >>= λ m. Some (attr_of plan coded m.0, m.1)) none

-- ---- what it decodes to

raws_named : (pool : List PoolItem) (handlers : List Handler) → AllByRecursion (λ (handler : Handler). handler.catch ≡ None) handlers → AllZip (NamesHandler pool) (map raw_of handlers) handlers
raws_named pool [] h = tt
raws_named pool (x ∷ handlers) h = (record { start = refl; end = refl; target = refl; catch = subst (λ (o : Option (List ℕ)). Catches pool 0 o) (sym h.0) refl }, raws_named pool handlers h.1)

pub is_code : (framed : FramedBody) (old coded new : List PoolItem) (code : List ℕ) (handlers : List RawHandler) (attr : CodeAttr) → MayWrite old framed → DecodesTo coded code framed.body → Grows coded new
    → handlers ≡ map raw_of framed.body.handlers → attr.max_stack ≡ framed.body.max_stack → attr.max_locals ≡ framed.body.max_locals → attr.code ≡ code → attr.handlers ≡ handlers → IsCodeOf new attr framed
is_code framed old coded new code handlers attr may decodes grows raws stack locals coded_is table later on =
    let body = framed.body in
    let named : AllZip (NamesHandler later) (map raw_of body.handlers) body.handlers = raws_named later body.handlers may.catches in
    let raw : attr.handlers ≡ map raw_of body.handlers = table ∙ raws in
    let d = decodes later (map raw_of body.handlers) (grows_on coded new later grows on) named in
    subst (λ (h : List RawHandler). Decodes later attr.max_stack attr.max_locals attr.code h body) (sym raw)
    (subst (λ (c : List ℕ). Decodes later attr.max_stack attr.max_locals c (map raw_of body.handlers) body) (sym coded_is)
    (subst (λ (n : ℕ). Decodes later attr.max_stack n code (map raw_of body.handlers) body) (sym locals)
    (subst (λ (n : ℕ). Decodes later n body.max_locals code (map raw_of body.handlers) body) (sym stack) d)))

-- ---- its map

-- the map that was written of some frames of a body
maps_of : (body : Body) (rows : List (ℕ × Frame)) (coded new : List PoolItem) (attrs : List (Attr NoCode)) → rises_from 0 rows ≡ true
    → AllByRecursion (λ (row : ℕ × Frame). IsStart body.insns row.0) rows → AllByRecursion (λ (row : ℕ × Frame). length row.1.stack ≤ body.max_stack) rows
    → AllByRecursion (λ (row : ℕ × Frame). IsFullFrame body.max_locals body.insns row.1) rows → put_maps rows coded ≡ Some (attrs, new)
    → (later : List PoolItem) (entry : List VType) → Grows new later → AreMapFrames later body 0 entry (written_frames attrs) rows
maps_of body [] coded new attrs rising starts stacks full e later entry grows =
    let here : List (Attr NoCode) × List PoolItem = ([], coded) in
    let made : List (Attr NoCode) × List PoolItem = (attrs, new) in
    given_as (λ (w : List (Attr NoCode) × List PoolItem). AreMapFrames later body 0 entry (written_frames w.0) []) here made e refl
maps_of body (row ∷ rows) coded new attrs rising starts stacks full e later entry grows =
    let made : List (Attr NoCode) × List PoolItem = (attrs, new) in
    let a = bind_some (put_item (Utf8 (codes "StackMapTable")) coded)
    (λ name. put_each put_frame (deltas_from 0 (row ∷ rows)) name.1 >>= λ frames. Some (record { name = name.0; body = Maps frames.0 } ∷ [], frames.1)) made e in
    let b = bind_some (put_each put_frame (deltas_from 0 (row ∷ rows)) a.0.1) (λ frames. Some (record { name = a.0.0; body = Maps frames.0 } ∷ [], frames.1)) made a.2 in
    let here : List (Attr NoCode) × List PoolItem = (record { name = a.0.0; body = Maps b.0.0 } ∷ [], b.0.1) in
    given_as (λ (w : List (Attr NoCode) × List PoolItem). Grows w.1 later → AreMapFrames later body 0 entry (written_frames w.0) (row ∷ rows)) here made b.2
    (λ on. (frames_written body 0 (row ∷ rows) a.0.1 b.0.1 b.0.0 rising starts stacks full b.1).are later entry on) grows

pub has_maps : (framed : FramedBody) (old coded new : List PoolItem) (attr : CodeAttr) → MayWrite old framed → put_maps (target_frames (plan_in framed)) coded ≡ Some (attr.attrs, new) → HasMaps new attr framed
has_maps framed old coded new attr may put later entry grows =
    let body = framed.body in
    let test = is_among (targets_in body.insns body.handlers) in
    let pass = λ (row : ℕ × Frame). test row.0 in
    maps_of body (frames_where test framed.frames) coded new attr.attrs (filtered_rise test 0 framed.frames may.rising)
    (filtered (λ (row : ℕ × Frame). IsStart body.insns row.0) pass framed.frames may.starts)
    (filtered (λ (row : ℕ × Frame). length row.1.stack ≤ body.max_stack) pass framed.frames may.stack) may.maps put later entry grows
