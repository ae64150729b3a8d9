-- The frames of a map, one after the other.
use Rattle.std.proofs.Common.{◌≡◌, ℕ, ◌+◌, ◌<◌, ◌≤◌, List, [], ◌∷◌, ◌++◌, length, drop, get_or, append_assoc, refl, sym, ap, ◌∙◌, subst, inl, inr, arith}
use Rattle.std.proofs.lemmas.List.{drop_all, append-nil}
use Rattle.jv_lists.proofs.Places.{drop_one}
use Rattle.jv_types.specs.declared.body.Body.{Body}
use Rattle.jv_types.specs.declared.frames.VType.{VType}
use Rattle.jv_types.specs.declared.frames.Frame.{Frame}
use Rattle.jv_pool.specs.declared.item.PoolItem.{PoolItem}
use Rattle.jv_attr.specs.declared.frame.MapFrame.{MapFrame}
use Rattle.jv_frames.specs.Types.{frame_of}
use Rattle.jv_frames.specs.Maps.{frame_delta, IsMapFrame, IsNoMapFrame, AreMapFrames, IsFirstBad}
use Rattle.jv_frames.specs.Steps.Mapping.{GoesOn}

pub begins : (pool : List PoolItem) (body : Body) (entry : List VType) (frames : List MapFrame) → GoesOn pool body entry frames 0 entry [] 0
begins pool body entry frames = record { base_fits = omega arith; makes = λ rest h. h; fails = λ pc h. h }

pub goes_on : (pool : List PoolItem) (body : Body) (entry : List VType) (frames : List MapFrame) (base : ℕ) (before : List VType) (rows : List (ℕ × Frame)) (n : ℕ) (f : MapFrame)
    (locals stack : List VType) (pc : ℕ) (frame : Frame) → n < length frames → f ≡ get_or frames n f → GoesOn pool body entry frames base before rows n → pc ≡ base + frame_delta f → pc < 65536
    → IsMapFrame pool body base before f locals stack → frame ≡ frame_of body.max_locals locals stack
    → GoesOn pool body entry frames (pc + 1) locals (rows ++ (pc, frame) ∷ []) (n + 1)
goes_on pool body entry frames base before rows n f locals stack pc frame below is so_far at within made framed =
    let next = drop_one frames n f below is in
    let row : ℕ × Frame = (pc, frame) in
    record {
      base_fits = omega arith;
      makes = λ rest h.
          let now : AreMapFrames pool body base before (f ∷ drop (n + 1) frames) (row ∷ rest) =
          (locals, stack, rest, made, ap (λ (p : ℕ). (p, frame) ∷ rest) at ∙ ap (λ (x : Frame). (base + frame_delta f, x) ∷ rest) framed, subst (λ (p : ℕ). AreMapFrames pool body (p + 1) locals (drop (n + 1) frames) rest) at h) in
          rw (append_assoc rows (row ∷ []) rest) (so_far.makes (row ∷ rest) (subst (λ (fs : List MapFrame). AreMapFrames pool body base before fs (row ∷ rest)) (sym next) now));
      fails = λ bad h.
          let now : IsFirstBad pool body base before (f ∷ drop (n + 1) frames) bad =
          inr (locals, stack, made, subst (λ (p : ℕ). IsFirstBad pool body (p + 1) locals (drop (n + 1) frames) bad) at h) in
          so_far.fails bad (subst (λ (fs : List MapFrame). IsFirstBad pool body base before fs bad) (sym next) now);
    }

pub goes_bad : (pool : List PoolItem) (body : Body) (entry : List VType) (frames : List MapFrame) (base : ℕ) (before : List VType) (rows : List (ℕ × Frame)) (n : ℕ) (f : MapFrame) (pc : ℕ)
    → n < length frames → f ≡ get_or frames n f → GoesOn pool body entry frames base before rows n → pc ≡ base + frame_delta f → IsNoMapFrame pool body base before f
    → IsFirstBad pool body 0 entry frames pc
goes_bad pool body entry frames base before rows n f pc below is so_far at none =
    let now : IsFirstBad pool body base before (f ∷ drop (n + 1) frames) pc = inl (at, none) in
    so_far.fails pc (subst (λ (fs : List MapFrame). IsFirstBad pool body base before fs pc) (sym (drop_one frames n f below is)) now)

pub ends : (pool : List PoolItem) (body : Body) (entry : List VType) (frames : List MapFrame) (base : ℕ) (before : List VType) (rows : List (ℕ × Frame)) (n : ℕ) → length frames ≤ n
    → GoesOn pool body entry frames base before rows n → AreMapFrames pool body 0 entry frames rows
ends pool body entry frames base before rows n past so_far =
    subst (AreMapFrames pool body 0 entry frames) (append-nil rows)
    (so_far.makes [] (subst (λ (fs : List MapFrame). AreMapFrames pool body base before fs []) (sym (drop_all n frames past)) refl))
