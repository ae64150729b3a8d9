-- The attribute that has the map.
use Rattle.std.proofs.Common.{◌≡◌, ℕ, Bool, true, false, List, [], ◌∷◌, Option, Some, None, sym, ap, subst, ◌∙◌}
use Rattle.std.specs.Prelude.{Result, Err, codes}
use Rattle.std.specs.List.{list_any}
use Rattle.std.specs.Ordering.{nat_cmp}
use Rattle.std.specs.BTreeSet.{BTreeSet, contains}
use Rattle.std.specs.declared.convert.Infallible.{Infallible as NoCode}
use Rattle.jv_types.specs.declared.instruction.Insn.{Insn}
use Rattle.jv_types.specs.declared.body.Handler.{Handler}
use Rattle.jv_types.specs.declared.frames.Frame.{Frame}
use Rattle.jv_types.specs.declared.frames.FramedBody.{FramedBody}
use Rattle.jv_pool.specs.declared.item.PoolItem.{PoolItem}
use Rattle.jv_pool.specs.declared.item.PoolItem.TheVariants.{Utf8}
use Rattle.jv_attr.specs.declared.attr.Attr.{Attr}
use Rattle.jv_attr.specs.declared.attr.AttrBody.TheVariants.{Maps}
use Rattle.jv_attr.specs.declared.frame.MapFrame.{MapFrame}
use Rattle.jv_read.specs.Reading.{◌>>=◌}
use Rattle.jv_read.proofs.Fronts.{bind_is}
use Rattle.jv_insn.specs.declared.fault.EncodeRefusal.{EncodeRefusal}
use Rattle.jv_insn.specs.declared.fault.EncodeRefusal.TheVariants.{PoolFull, TooLong, Memory}
use Rattle.jv_insn.specs.Entries.{put_item}
use Rattle.jv_insn.specs.Steps.Writing.{PutFails}
use Rattle.av_asm.specs.Mapping.{put_frame, deltas_from, put_each, put_maps}
use Rattle.av_asm.specs.Planning.{targets_in, is_among, frames_where, plan_in, target_frames}
use Rattle.av_asm.specs.Steps.{HasOffsets}
use Rattle.av_asm.proofs.Marks.{same_frames, no_frames, some_frames}

-- ---- refusals

-- where the first step fails, both do
fails_on : {A B : Type 0} (e : EncodeRefusal) (o : Option A) (f : A → Option B) → PutFails e o → PutFails e (o >>= f)
fails_on {A} {B} Memory o f h = tt
fails_on {A} {B} PoolFull o f h = ap (λ (p : Option A). p >>= f) h
fails_on {A} {B} TooLong o f h = h

pub full_none : {A T : Type 0} (e : EncodeRefusal) (o : Option A) (a b : Result T EncodeRefusal) → PutFails e o → a ≡ Err e → b ≡ Err PoolFull → a ≡ b → o ≡ None
full_none {A} {T} e o a b h is_a is_b same =
    let one : e ≡ PoolFull = cc in
    subst (λ (x : EncodeRefusal). PutFails x o) one h

-- ---- the table

-- no frame, no table
pub no_table : (test : ℕ → Bool) (rows : List (ℕ × Frame)) (pool : List PoolItem) (attrs : List (Attr NoCode)) → list_any (λ (row : ℕ × Frame). test row.0) rows ≡ false → attrs ≡ [] → put_maps (frames_where test rows) pool ≡ Some (attrs, pool)
no_table test rows pool attrs none are =
    ap (λ (rs : List (ℕ × Frame)). put_maps rs pool) (no_frames test rows none)
    ∙ ap (λ (a : List (Attr NoCode)). let r : List (Attr NoCode) × List PoolItem = (a, pool) in Some r) (sym are)

-- with a frame its name is added first
pub named_first : (test : ℕ → Bool) (rows : List (ℕ × Frame)) (old : List PoolItem) (text : List ℕ) → list_any (λ (row : ℕ × Frame). test row.0) rows ≡ true → text ≡ codes "StackMapTable"
    → put_maps (frames_where test rows) old ≡ (put_item (Utf8 text) old >>= λ name. put_each put_frame (deltas_from 0 (frames_where test rows)) name.1 >>= λ frames. Some (record { name = name.0; body = Maps frames.0 } ∷ [], frames.1))
named_first test rows old text some is =
    let s = some_frames test rows some in
    ap (λ (rs : List (ℕ × Frame)). put_maps rs old) s.2
    ∙ ap (λ (t : List ℕ). put_item (Utf8 t) old >>= λ name. put_each put_frame (deltas_from 0 (s.0 ∷ s.1)) name.1 >>= λ frames. Some (record { name = name.0; body = Maps frames.0 } ∷ [], frames.1)) (sym is)
    ∙ ap (λ (rs : List (ℕ × Frame)). put_item (Utf8 text) old >>= λ name. put_each put_frame (deltas_from 0 rs) name.1 >>= λ frames. Some (record { name = name.0; body = Maps frames.0 } ∷ [], frames.1)) (sym s.2)

pub table_put : (test : ℕ → Bool) (rows : List (ℕ × Frame)) (old mid new : List PoolItem) (text : List ℕ) (name : ℕ) (frames : List MapFrame) (attrs : List (Attr NoCode)) → list_any (λ (row : ℕ × Frame). test row.0) rows ≡ true
    → text ≡ codes "StackMapTable" → put_item (Utf8 text) old ≡ Some (name, mid) → put_each put_frame (deltas_from 0 (frames_where test rows)) mid ≡ Some (frames, new) → attrs ≡ record { name = name; body = Maps frames } ∷ []
    → put_maps (frames_where test rows) old ≡ Some (attrs, new)
table_put test rows old mid new text name frames attrs some is named put are =
    named_first test rows old text some is
    ∙ bind_is (put_item (Utf8 text) old) (λ name. put_each put_frame (deltas_from 0 (frames_where test rows)) name.1 >>= λ frames. Some (record { name = name.0; body = Maps frames.0 } ∷ [], frames.1)) (name, mid) named
    ∙ bind_is (put_each put_frame (deltas_from 0 (frames_where test rows)) mid) (λ frames. Some (record { name = name; body = Maps frames.0 } ∷ [], frames.1)) (frames, new) put
    ∙ ap (λ (a : List (Attr NoCode)). let r : List (Attr NoCode) × List PoolItem = (a, new) in Some r) (sym are)

pub name_fails : (test : ℕ → Bool) (rows : List (ℕ × Frame)) (old : List PoolItem) (text : List ℕ) (e : EncodeRefusal) → list_any (λ (row : ℕ × Frame). test row.0) rows ≡ true → text ≡ codes "StackMapTable"
    → PutFails e (put_item (Utf8 text) old) → PutFails e (put_maps (frames_where test rows) old)
name_fails test rows old text e some is h =
    subst (PutFails e) (sym (named_first test rows old text some is))
    (fails_on e (put_item (Utf8 text) old) (λ name. put_each put_frame (deltas_from 0 (frames_where test rows)) name.1 >>= λ frames. Some (record { name = name.0; body = Maps frames.0 } ∷ [], frames.1)) h)

pub frames_fail : (test : ℕ → Bool) (rows : List (ℕ × Frame)) (old mid : List PoolItem) (text : List ℕ) (name : ℕ) (e : EncodeRefusal) → list_any (λ (row : ℕ × Frame). test row.0) rows ≡ true → text ≡ codes "StackMapTable"
    → put_item (Utf8 text) old ≡ Some (name, mid) → PutFails e (put_each put_frame (deltas_from 0 (frames_where test rows)) mid) → PutFails e (put_maps (frames_where test rows) old)
frames_fail test rows old mid text name e some is named h =
    subst (PutFails e)
    (sym
    (named_first test rows old text some is
    ∙ bind_is (put_item (Utf8 text) old) (λ name. put_each put_frame (deltas_from 0 (frames_where test rows)) name.1 >>= λ frames. Some (record { name = name.0; body = Maps frames.0 } ∷ [], frames.1)) (name, mid) named))
    (fails_on e (put_each put_frame (deltas_from 0 (frames_where test rows)) mid) (λ frames. Some (record { name = name; body = Maps frames.0 } ∷ [], frames.1)) h)

-- ---- the frames at targets

-- the set of the targets picks the frames at targets
pub targets_are : (framed : FramedBody) (set : BTreeSet ℕ) (rows : List (ℕ × Frame)) (insns : List (ℕ × Insn)) (handlers : List Handler) → HasOffsets set (targets_in insns handlers) → insns ≡ framed.body.insns → handlers ≡ framed.body.handlers
    → rows ≡ framed.frames → frames_where (contains nat_cmp set) rows ≡ target_frames (plan_in framed)
targets_are framed set rows insns handlers has same_insns same_handlers same_rows =
    let body = framed.body in
    let targets : targets_in insns handlers ≡ targets_in body.insns body.handlers = ap (λ (is : List (ℕ × Insn)). targets_in is handlers) same_insns ∙ ap (targets_in body.insns) same_handlers in
    ap (frames_where (contains nat_cmp set)) same_rows
    ∙ same_frames (contains nat_cmp set) (is_among (targets_in body.insns body.handlers)) framed.frames (λ pc. has pc ∙ ap (λ (ts : List ℕ). is_among ts pc) targets)
