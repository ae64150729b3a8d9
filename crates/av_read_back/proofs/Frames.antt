-- Frames of a map, as they are put.
use Rattle.std.proofs.Common.{◌≡◌, ℕ, ◌+◌, ◌*◌, ◌<◌, ◌≤◌, List, [], ◌∷◌, ◌++◌, length, Option, Some, refl, sym, ap, subst, ◌∙◌, length-append, arith}
use Rattle.std.specs.List.{AllByRecursion, flat_map}
use Rattle.std.proofs.lemmas.Slice.Zip.{AllZip-long}
use Rattle.jv_lists.proofs.Among.{all_from}
use Rattle.jv_bytes.proofs.NumberLaws.{length-number_text}
use Rattle.jv_types.specs.declared.frames.Frame.{Frame}
use Rattle.jv_table.specs.declared.class_tables.FrameGroup.{FrameGroup}
use Rattle.jv_table.specs.declared.class_tables.FrameGroup.TheVariants.{Full}
use Rattle.jv_pool.specs.declared.item.PoolItem.{PoolItem}
use Rattle.jv_pool.specs.PoolText.{u2}
use Rattle.jv_attr.specs.declared.frame.MapFrame.{MapFrame}
use Rattle.jv_attr.specs.FrameText.{group_of, IsType, types_text, parts_text, frame_text, HasParts, IsFrame, HasFewParts, HasFewTypes}
use Rattle.jv_read.specs.Reading.{◌>>=◌}
use Rattle.jv_read.proofs.Fronts.{bind_some, given_as}
use Rattle.jv_insn.specs.Entries.{Grows}
use Rattle.av_asm.specs.Mapping.{put_each, put_type, values_of, put_frame, deltas_from}
use Rattle.av_read_back.proofs.Pools.{IsFilePool, Grown, grown_on}
use Rattle.av_read_back.proofs.Each.{zip_second, IsOnePut, each_put}
use Rattle.av_read_back.proofs.Types.{MayPutType, type_later, types_size, types_put}

-- ---- a full frame

full_group : group_of 255 ≡ Some Full
unfolding group_of
full_group = refl

parts_size : (d m n : ℕ) (a b : List ℕ) → length (u2 d ++ u2 m ++ a ++ u2 n ++ b) ≡ 6 + (length a + length b)
parts_size d m n a b =
    let two = u2 d ++ u2 m in
    let three = two ++ a in
    let four = three ++ u2 n in
    omega (arith, length-append (u2 d) (u2 m), length-append two a, length-append three (u2 n), length-append four b, length-number_text 2 d, length-number_text 2 m, length-number_text 2 n)

full_size : (f : MapFrame) → f.kind ≡ 255 → length f.locals ≤ 255 → length f.stack ≤ 20000 → length (frame_text f) ≤ 60772
full_size f full locals stack =
    let group : group_of f.kind ≡ Some Full = ap group_of full ∙ full_group in
    let parts : length (parts_text (group_of f.kind) f) ≡ 6 + (length (types_text f.locals) + length (types_text f.stack)) =
    ap (λ (g : Option FrameGroup). length (parts_text g f)) group ∙ parts_size f.delta (length f.locals) (length f.stack) (types_text f.locals) (types_text f.stack) in
    omega (arith, parts, types_size f.locals, types_size f.stack, locals, stack)

-- ---- a frame

-- a frame that may be put at a distance
pub record MayPutFrame (row : ℕ × Frame) : Type 0 where
  pub small : row.0 < 65536
  pub locals : AllByRecursion MayPutType (values_of row.1.locals)
  pub stack : AllByRecursion MayPutType (values_of row.1.stack)
  pub few_locals : length (values_of row.1.locals) ≤ 255
  pub few_stack : length (values_of row.1.stack) ≤ 20000

-- what was written of a frame
pub record IsFiledFrame (pool : List PoolItem) (row : ℕ × Frame) (f : MapFrame) : Type 0 where
  pub is : IsFrame pool f
  pub few : HasFewTypes f
  pub size : length (frame_text f) ≤ 60772

frame_put : (row : ℕ × Frame) (old : List PoolItem) (made : MapFrame × List PoolItem) → IsFilePool old → MayPutFrame row → put_frame row old ≡ Some made → IsOnePut IsFiledFrame old made.1 row made.0
frame_put row old made g may e =
    let a = bind_some (put_each put_type (values_of row.1.locals) old)
    (λ locals. put_each put_type (values_of row.1.stack) locals.1 >>= λ stack. Some (record { kind = 255; delta = row.0; locals = locals.0; stack = stack.0 }, stack.1)) made e in
    let b = bind_some (put_each put_type (values_of row.1.stack) a.0.1) (λ stack. Some (record { kind = 255; delta = row.0; locals = a.0.0; stack = stack.0 }, stack.1)) made a.2 in
    let p = types_put (values_of row.1.locals) old a.0 g may.locals a.1 in
    let q = types_put (values_of row.1.stack) a.0.1 b.0 p.grown.good may.stack b.1 in
    let f : MapFrame = record { kind = 255; delta = row.0; locals = a.0.0; stack = b.0.0 } in
    let here : MapFrame × List PoolItem = (f, b.0.1) in
    let small : row.0 < 65536 = may.small in
    let parts : HasParts (group_of 255) f = subst (λ (o : Option FrameGroup). HasParts o f) (sym full_group) small in
    let locals : length a.0.0 ≤ 255 = omega (arith, p.count, may.few_locals) in
    let stack : length b.0.0 ≤ 20000 = omega (arith, q.count, may.few_stack) in
    let few : HasFewTypes f = subst (λ (o : Option FrameGroup). HasFewParts o f) (sym full_group) (omega (arith, locals), omega (arith, stack)) in
    let filed : IsFiledFrame b.0.1 row f = record {
      is = record { parts = parts; locals = all_from (IsType a.0.1) (IsType b.0.1) (λ m h. type_later m a.0.1 b.0.1 q.grown.grows h) a.0.0 p.are; stack = q.are };
      few = few;
      size = full_size f refl locals stack;
    } in
    given_as (λ (w : MapFrame × List PoolItem). IsOnePut IsFiledFrame old w.1 row w.0) here made b.2 (record { grown = grown_on old a.0.1 b.0.1 p.grown q.grown; is = filed })

pub frame_later : (f : MapFrame) (old new : List PoolItem) → Grows old new → IsFrame old f → IsFrame new f
frame_later f old new grows h = record {
  parts = h.parts;
  locals = all_from (IsType old) (IsType new) (λ m k. type_later m old new grows k) f.locals h.locals;
  stack = all_from (IsType old) (IsType new) (λ m k. type_later m old new grows k) f.stack h.stack;
}

filed_later : (row : ℕ × Frame) (f : MapFrame) (old new : List PoolItem) → Grows old new → IsFiledFrame old row f → IsFiledFrame new row f
filed_later row f old new grows h = record { is = frame_later f old new grows h.is; few = h.few; size = h.size }

-- ---- frames

all_frames_size : (frames : List MapFrame) → AllByRecursion (λ (f : MapFrame). length (frame_text f) ≤ 60772) frames → length (flat_map frame_text frames) ≤ 60772 * length frames
all_frames_size [] h = omega arith
all_frames_size (f ∷ frames) h = omega (arith, h.0, all_frames_size frames h.1, length-append (frame_text f) (flat_map frame_text frames))

nearer : (base : ℕ) (rows : List (ℕ × Frame)) → AllByRecursion MayPutFrame rows → AllByRecursion MayPutFrame (deltas_from base rows)
nearer base [] h = tt
nearer base (row ∷ rows) h =
    let m = h.0 in
    let small : row.0 < 65536 = m.small in
    (record { small = omega (arith, small); locals = m.locals; stack = m.stack; few_locals = m.few_locals; few_stack = m.few_stack }, nearer (row.0 + 1) rows h.1)

deltas_count : (base : ℕ) (rows : List (ℕ × Frame)) → length (deltas_from base rows) ≡ length rows
deltas_count base [] = refl
deltas_count base (row ∷ rows) = omega (arith, deltas_count (row.0 + 1) rows)

pub record AreFramesPut (old new : List PoolItem) (rows : List (ℕ × Frame)) (written : List MapFrame) : Type 0 where
  pub grown : Grown old new
  pub are : AllByRecursion (IsFrame new) written
  pub few : AllByRecursion HasFewTypes written
  pub count : length written ≡ length rows
  pub size : length (flat_map frame_text written) ≤ 60772 * length rows

pub frames_put : (rows : List (ℕ × Frame)) (old : List PoolItem) (made : List MapFrame × List PoolItem) → IsFilePool old → AllByRecursion MayPutFrame rows → put_each put_frame (deltas_from 0 rows) old ≡ Some made
    → AreFramesPut old made.1 rows made.0
frames_put rows old made g may e =
    let near = deltas_from 0 rows in
    let p = each_put put_frame MayPutFrame IsFiledFrame frame_put filed_later near old made g (nearer 0 rows may) e in
    let count : length made.0 ≡ length rows = AllZip-long (IsFiledFrame made.1) near made.0 p.are ∙ deltas_count 0 rows in
    let small = all_frames_size made.0 (zip_second (IsFiledFrame made.1) (λ (f : MapFrame). length (frame_text f) ≤ 60772) (λ row f h. h.size) near made.0 p.are) in
    record {
      grown = p.grown;
      are = zip_second (IsFiledFrame made.1) (IsFrame made.1) (λ row f h. h.is) near made.0 p.are;
      few = zip_second (IsFiledFrame made.1) HasFewTypes (λ row f h. h.few) near made.0 p.are;
      count = count;
      size = omega (arith, count, small);
    }
