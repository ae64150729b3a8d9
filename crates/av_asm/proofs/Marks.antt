-- The frames at targets, and the loop that writes them.
use Rattle.std.proofs.Common.{◌≡◌, ℕ, ◌+◌, ◌-◌, ◌<◌, ◌≤◌, Bool, true, false, cond, leb, List, [], ◌∷◌, ◌++◌, length, drop, get_or, Some, None, refl, sym, ap, subst, ◌∙◌, arith}
use Rattle.std.specs.Prelude.{◌&&◌, ◌||◌}
use Rattle.std.specs.List.{list_any}
use Rattle.std.proofs.lemmas.List.{drop_more, drop_all}
use Rattle.std.proofs.lemmas.Bool.Decides.{nat_tests}
use Rattle.jv_types.specs.Bodies.{rises_from}
use Rattle.jv_types.specs.declared.frames.Frame.{Frame}
use Rattle.jv_pool.specs.declared.item.PoolItem.{PoolItem}
use Rattle.jv_attr.specs.declared.frame.MapFrame.{MapFrame}
use Rattle.jv_insn.specs.Entries.{Grows}
use Rattle.av_asm.specs.Mapping.{put_frame, deltas_from, put_each}
use Rattle.av_asm.specs.Planning.{frames_where}
use Rattle.av_asm.proofs.Putting.{IsPutSoFar, put_begun, put_more, put_stopped, put_ended}

-- ---- which frames

-- two tests that say the same pass the same frames
pub same_frames : (a b : ℕ → Bool) (rows : List (ℕ × Frame)) → ((pc : ℕ) → a pc ≡ b pc) → frames_where a rows ≡ frames_where b rows
same_frames a b [] same = refl
same_frames a b (row ∷ rows) same =
    ap (λ (t : Bool). cond t (row ∷ frames_where a rows) (frames_where a rows)) (same row.0)
    ∙ ap (λ (rest : List (ℕ × Frame)). cond (b row.0) (row ∷ rest) rest) (same_frames a b rows same)

pub no_frames : (test : ℕ → Bool) (rows : List (ℕ × Frame)) → list_any (λ (row : ℕ × Frame). test row.0) rows ≡ false → frames_where test rows ≡ []
no_frames test [] e = refl
no_frames test (row ∷ rows) e = by (test row.0) (no_frames test rows) e
  where
    by : (b : Bool) → (list_any (λ (r : ℕ × Frame). test r.0) rows ≡ false → frames_where test rows ≡ []) → (b || list_any (λ (r : ℕ × Frame). test r.0) rows) ≡ false
        → cond b (row ∷ frames_where test rows) (frames_where test rows) ≡ []
    by true more e = absurd cc
    by false more e = more e

pub some_frames : (test : ℕ → Bool) (rows : List (ℕ × Frame)) → list_any (λ (row : ℕ × Frame). test row.0) rows ≡ true → (first : ℕ × Frame) × (rest : List (ℕ × Frame)) × (frames_where test rows ≡ first ∷ rest)
some_frames test [] e = absurd cc
some_frames test (row ∷ rows) e = by (test row.0) (some_frames test rows) e
  where
    by : (b : Bool) → (list_any (λ (r : ℕ × Frame). test r.0) rows ≡ true → (first : ℕ × Frame) × (rest : List (ℕ × Frame)) × (frames_where test rows ≡ first ∷ rest)) → (b || list_any (λ (r : ℕ × Frame). test r.0) rows) ≡ true
        → (first : ℕ × Frame) × (rest : List (ℕ × Frame)) × (cond b (row ∷ frames_where test rows) (frames_where test rows) ≡ first ∷ rest)
    by true more e = (row, frames_where test rows, refl)
    by false more e = more e

-- ---- rising offsets

pub rises_lower : {I : Type 0} (low high : ℕ) (rows : List (ℕ × I)) → low ≤ high → rises_from high rows ≡ true → rises_from low rows ≡ true
rises_lower {I} low high [] le h = refl
rises_lower {I} low high (row ∷ rows) le h = by (leb high row.0) refl h
  where
    by : (b : Bool) → leb high row.0 ≡ b → (b && rises_from (row.0 + 1) rows) ≡ true → (leb low row.0 && rises_from (row.0 + 1) rows) ≡ true
    by true is h = let lower : leb low row.0 ≡ true = grind (arith, nat_tests) in rw lower h
    by false is h = absurd cc

pub rises_first : {I : Type 0} (low : ℕ) (row : ℕ × I) (rows : List (ℕ × I)) → rises_from low (row ∷ rows) ≡ true → (low ≤ row.0) × (rises_from (row.0 + 1) rows ≡ true)
rises_first {I} low row rows h = by (leb low row.0) refl h
  where
    by : (b : Bool) → leb low row.0 ≡ b → (b && rises_from (row.0 + 1) rows) ≡ true → (low ≤ row.0) × (rises_from (row.0 + 1) rows ≡ true)
    by true is h = (grind (arith, nat_tests), h)
    by false is h = absurd cc

pub filtered_rise : (test : ℕ → Bool) (low : ℕ) (rows : List (ℕ × Frame)) → rises_from low rows ≡ true → rises_from low (frames_where test rows) ≡ true
filtered_rise test low [] h = refl
filtered_rise test low (row ∷ rows) h =
    let f = rises_first low row rows h in
    by (test row.0) f.0 (filtered_rise test (row.0 + 1) rows f.1)
    (filtered_rise test low rows (rises_lower low (row.0 + 1) rows (omega (arith, f.0)) f.1))
  where
    by : (b : Bool) → low ≤ row.0 → rises_from (row.0 + 1) (frames_where test rows) ≡ true → rises_from low (frames_where test rows) ≡ true → rises_from low (cond b (row ∷ frames_where test rows) (frames_where test rows)) ≡ true
    by true le behind below = let is : leb low row.0 ≡ true = grind (arith, nat_tests) in rw is behind
    by false le behind below = below

-- ---- the loop

-- the frames before a place are written, and the next is counted from a base
pub record AreMapsSoFar (test : ℕ → Bool) (rows : List (ℕ × Frame)) (i base : ℕ) (initial now : List PoolItem) (written : List MapFrame) : Type 0 where
  pub so_far : IsPutSoFar put_frame (deltas_from 0 (frames_where test rows)) (deltas_from base (frames_where test (drop i rows))) initial now written
  pub rising : rises_from base (drop i rows) ≡ true
  pub fits : base ≤ 65536

pub maps_begun : (test : ℕ → Bool) (rows : List (ℕ × Frame)) (pool : List PoolItem) → rises_from 0 rows ≡ true → AreMapsSoFar test rows 0 0 pool pool []
maps_begun test rows pool rising = record { so_far = put_begun put_frame (deltas_from 0 (frames_where test rows)) pool; rising = rising; fits = omega arith }

next_row : (rows : List (ℕ × Frame)) (i : ℕ) (row : ℕ × Frame) → i < length rows → row ≡ get_or rows i row → drop i rows ≡ row ∷ drop (i + 1) rows
next_row rows i row lt is = drop_more rows i row lt ∙ ap (λ (r : ℕ × Frame). r ∷ drop (i + 1) rows) (sym is)

-- the next frame stands at or behind the base
pub base_below : (test : ℕ → Bool) (rows : List (ℕ × Frame)) (i base : ℕ) (row : ℕ × Frame) (initial now : List PoolItem) (written : List MapFrame) → i < length rows → row ≡ get_or rows i row
    → AreMapsSoFar test rows i base initial now written → (base ≤ row.0) × (rises_from (row.0 + 1) (drop (i + 1) rows) ≡ true)
base_below test rows i base row initial now written lt is h =
    rises_first base row (drop (i + 1) rows) (subst (λ (rs : List (ℕ × Frame)). rises_from base rs ≡ true) (next_row rows i row lt is) h.rising)

-- a frame at no target is passed over
pub maps_over : (test : ℕ → Bool) (rows : List (ℕ × Frame)) (i base : ℕ) (row : ℕ × Frame) (initial now : List PoolItem) (written : List MapFrame) → i < length rows → row ≡ get_or rows i row
    → test row.0 ≡ false → AreMapsSoFar test rows i base initial now written → AreMapsSoFar test rows (i + 1) base initial now written
maps_over test rows i base row initial now written lt is off h =
    let next = base_below test rows i base row initial now written lt is h in
    let left : frames_where test (drop i rows) ≡ frames_where test (drop (i + 1) rows) =
    ap (frames_where test) (next_row rows i row lt is) ∙ ap (λ (b : Bool). cond b (row ∷ frames_where test (drop (i + 1) rows)) (frames_where test (drop (i + 1) rows))) off in
    record {
      so_far = subst (λ (rs : List (ℕ × Frame)). IsPutSoFar put_frame (deltas_from 0 (frames_where test rows)) (deltas_from base rs) initial now written) left h.so_far;
      rising = rises_lower base (row.0 + 1) (drop (i + 1) rows) (omega (arith, next.0)) next.1;
      fits = h.fits;
    }

-- the next one at a target is the first that is left
left_first : (test : ℕ → Bool) (rows : List (ℕ × Frame)) (i base : ℕ) (row : ℕ × Frame) → i < length rows → row ≡ get_or rows i row → test row.0 ≡ true
    → deltas_from base (frames_where test (drop i rows)) ≡ (row.0 - base, row.1) ∷ deltas_from (row.0 + 1) (frames_where test (drop (i + 1) rows))
left_first test rows i base row lt is on =
    ap (λ (rs : List (ℕ × Frame)). deltas_from base (frames_where test rs)) (next_row rows i row lt is)
    ∙ ap (λ (b : Bool). deltas_from base (cond b (row ∷ frames_where test (drop (i + 1) rows)) (frames_where test (drop (i + 1) rows)))) on

pub maps_more : (test : ℕ → Bool) (rows : List (ℕ × Frame)) (i base : ℕ) (row : ℕ × Frame) (initial now new : List PoolItem) (written more : List MapFrame) (f : MapFrame) (next : ℕ) → i < length rows → row ≡ get_or rows i row
    → test row.0 ≡ true → row.0 < 65536 → AreMapsSoFar test rows i base initial now written → put_frame (row.0 - base, row.1) now ≡ Some (f, new) → Grows now new → more ≡ written ++ f ∷ [] → next ≡ row.0 + 1
    → AreMapsSoFar test rows (i + 1) next initial new more
maps_more test rows i base row initial now new written more f next lt is on small h put grows pushed ends =
    let all = deltas_from 0 (frames_where test rows) in
    let rest = deltas_from (row.0 + 1) (frames_where test (drop (i + 1) rows)) in
    let before : IsPutSoFar put_frame all ((row.0 - base, row.1) ∷ rest) initial now written = subst (λ (left : List (ℕ × Frame)). IsPutSoFar put_frame all left initial now written) (left_first test rows i base row lt is on) h.so_far in
    let after = put_more put_frame all rest (row.0 - base, row.1) f initial now new written before put grows in
    let at_end = subst (λ (fs : List MapFrame). IsPutSoFar put_frame all rest initial new fs) (sym pushed) after in
    let there = base_below test rows i base row initial now written lt is h in
    record {
      so_far = subst (λ (k : ℕ). IsPutSoFar put_frame all (deltas_from k (frames_where test (drop (i + 1) rows))) initial new more) (sym ends) at_end;
      rising = subst (λ (k : ℕ). rises_from k (drop (i + 1) rows) ≡ true) (sym ends) there.1;
      fits = omega (arith, ends, small);
    }

pub maps_stopped : (test : ℕ → Bool) (rows : List (ℕ × Frame)) (i base : ℕ) (row : ℕ × Frame) (initial now : List PoolItem) (written : List MapFrame) → i < length rows → row ≡ get_or rows i row
    → test row.0 ≡ true → AreMapsSoFar test rows i base initial now written → put_frame (row.0 - base, row.1) now ≡ None → put_each put_frame (deltas_from 0 (frames_where test rows)) initial ≡ None
maps_stopped test rows i base row initial now written lt is on h none =
    let all = deltas_from 0 (frames_where test rows) in
    let rest = deltas_from (row.0 + 1) (frames_where test (drop (i + 1) rows)) in
    let before : IsPutSoFar put_frame all ((row.0 - base, row.1) ∷ rest) initial now written = subst (λ (left : List (ℕ × Frame)). IsPutSoFar put_frame all left initial now written) (left_first test rows i base row lt is on) h.so_far in
    put_stopped put_frame all rest (row.0 - base, row.1) initial now written before none

pub maps_ended : (test : ℕ → Bool) (rows : List (ℕ × Frame)) (i base : ℕ) (initial now : List PoolItem) (written : List MapFrame) → length rows ≤ i → AreMapsSoFar test rows i base initial now written
    → put_each put_frame (deltas_from 0 (frames_where test rows)) initial ≡ Some (written, now)
maps_ended test rows i base initial now written le h =
    put_ended put_frame (deltas_from 0 (frames_where test rows)) (deltas_from base (frames_where test (drop i rows))) initial now written
    (ap (λ (rs : List (ℕ × Frame)). deltas_from base (frames_where test rs)) (drop_all i rows le)) h.so_far
