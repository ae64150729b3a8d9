-- The map of a code, as it is put.
use Rattle.std.proofs.Common.{◌≡◌, ℕ, ◌+◌, ◌*◌, ◌≤◌, Bool, true, List, [], ◌∷◌, ◌++◌, length, Some, refl, ap, length-append, arith}
use Rattle.std.specs.Prelude.{codes, ◌&&◌, nat_le, count_by}
use Rattle.std.specs.List.{AllByRecursion, flat_map}
use Rattle.std.specs.declared.convert.Infallible.{Infallible as NoCode}
use Rattle.jv_bytes.proofs.NumberLaws.{length-number_text}
use Rattle.jv_types.specs.declared.frames.Frame.{Frame}
use Rattle.jv_pool.specs.declared.item.PoolItem.{PoolItem}
use Rattle.jv_pool.specs.declared.item.PoolItem.TheVariants.{Utf8}
use Rattle.jv_pool.specs.PoolText.{u2, u4}
use Rattle.jv_attr.specs.declared.attr.Attr.{Attr}
use Rattle.jv_attr.specs.declared.attr.AttrBody.TheVariants.{Maps}
use Rattle.jv_attr.specs.declared.frame.MapFrame.{MapFrame}
use Rattle.jv_attr.specs.declared.owner.Owner.TheVariants as owner
use Rattle.jv_attr.specs.FrameText.{frame_text, frames_text}
use Rattle.jv_attr.specs.AttrText.{is_maps, IsInner, IsInnerFew, IsInnerShort, inner_text, has_maps}
use Rattle.jv_read.specs.Reading.{◌>>=◌}
use Rattle.jv_read.proofs.Fronts.{bind_some, given_as, bytes_eq_itself}
use Rattle.jv_insn.specs.Entries.{put_item}
use Rattle.av_asm.specs.Mapping.{put_each, put_frame, deltas_from, put_maps}
use Rattle.av_read_back.specs.Fileable.{FitsPool}
use Rattle.av_read_back.proofs.Pools.{IsFilePool, Grown, grown_not, grown_on, text_later}
use Rattle.av_read_back.proofs.Named.{text_put}
use Rattle.av_read_back.proofs.Each.{ascii_fits}
use Rattle.av_read_back.proofs.Frames.{MayPutFrame, frames_put}

abbrev maps_name : List ℕ
maps_name = codes "StackMapTable"

maps_fit : FitsPool maps_name
maps_fit = ascii_fits maps_name refl (omega arith)

read_as_maps : is_maps owner.Code 52 maps_name ≡ true
read_as_maps = ap (λ (b : Bool). nat_le 50 52 && b) (bytes_eq_itself maps_name)

-- ---- how long it is

content_size : (frames : List MapFrame) (count : ℕ) → length (flat_map frame_text frames) ≤ 60772 * count → length (frames_text frames) ≤ 2 + 60772 * count
content_size frames count size = omega (arith, size, length-append (u2 (length frames)) (flat_map frame_text frames), length-number_text 2 (length frames))

abbrev map_attr : ℕ → List MapFrame → Attr NoCode
map_attr name frames = record { name = name; body = Maps frames }

attr_size : (name : ℕ) (frames : List MapFrame) → length (inner_text (map_attr name frames)) ≡ 6 + length (frames_text frames)
attr_size name frames =
    let content = frames_text frames in
    let length_text = u4 (length content) in
    omega (arith, length-append (u2 name) length_text, length-append (u2 name ++ length_text) content, length-number_text 2 name, length-number_text 4 (length content))

one_size : (name : ℕ) (frames : List MapFrame) → length (flat_map inner_text (map_attr name frames ∷ [])) ≡ 6 + length (frames_text frames)
one_size name frames =
    let text = inner_text (map_attr name frames) in
    omega (arith, attr_size name frames, length-append text [])

-- ---- the attributes of a code

-- the attributes that were put for frames: a map or none
pub record AreMapsPut (old new : List PoolItem) (attrs : List (Attr NoCode)) : Type 0 where
  pub grown : Grown old new
  pub are : AllByRecursion (IsInner new 52) attrs
  pub one : count_by has_maps attrs ≤ 1
  pub few : AllByRecursion IsInnerFew attrs
  pub short : AllByRecursion IsInnerShort attrs
  pub count : length attrs ≤ 1
  pub size : length (flat_map inner_text attrs) ≤ 3982693028

few_bytes : (n : ℕ) → n ≤ 65535 → 60772 * n ≤ 3982693020
few_bytes n le = omega (arith, le)

pub maps_put : (rows : List (ℕ × Frame)) (old : List PoolItem) (made : List (Attr NoCode) × List PoolItem) → IsFilePool old → AllByRecursion MayPutFrame rows → length rows ≤ 65535 → put_maps rows old ≡ Some made
    → AreMapsPut old made.1 made.0
maps_put [] old made g may count e =
    let here : List (Attr NoCode) × List PoolItem = ([], old) in
    given_as (λ (w : List (Attr NoCode) × List PoolItem). AreMapsPut old w.1 w.0) here made e
    (record { grown = grown_not old g; are = tt; one = omega arith; few = tt; short = tt; count = omega arith; size = omega arith })
maps_put (row ∷ rows) old made g may count e =
    let a = bind_some (put_item (Utf8 (codes "StackMapTable")) old)
    (λ name. put_each put_frame (deltas_from 0 (row ∷ rows)) name.1 >>= λ frames. Some (record { name = name.0; body = Maps frames.0 } ∷ [], frames.1)) made e in
    let b = bind_some (put_each put_frame (deltas_from 0 (row ∷ rows)) a.0.1) (λ frames. Some (record { name = a.0.0; body = Maps frames.0 } ∷ [], frames.1)) made a.2 in
    let p = text_put maps_name old a.0 g maps_fit a.1 in
    let q = frames_put (row ∷ rows) a.0.1 b.0 p.grown.good may b.1 in
    let here : List (Attr NoCode) × List PoolItem = (map_attr a.0.0 b.0.0 ∷ [], b.0.1) in
    let is : IsInner b.0.1 52 (map_attr a.0.0 b.0.0) = record {
      name_fits = p.small;
      name = maps_name;
      named = text_later a.0.1 b.0.1 a.0.0 maps_name q.grown.grows p.found;
      body = (read_as_maps, q.are);
    } in
    let total : 60772 * length (row ∷ rows) ≤ 3982693020 = few_bytes (length (row ∷ rows)) count in
    let content : length (frames_text b.0.0) ≤ 2 + 60772 * length (row ∷ rows) = content_size b.0.0 (length (row ∷ rows)) q.size in
    let short : IsInnerShort (map_attr a.0.0 b.0.0) = omega (arith, total, content) in
    given_as (λ (w : List (Attr NoCode) × List PoolItem). AreMapsPut old w.1 w.0) here made b.2
    (record {
      grown = grown_on old a.0.1 b.0.1 p.grown q.grown;
      are = (is, tt);
      one = omega arith;
      few = ((omega (arith, q.count, count), q.few), tt);
      short = (short, tt);
      count = omega arith;
      size = omega (arith, one_size a.0.0 b.0.0, total, content);
    })
