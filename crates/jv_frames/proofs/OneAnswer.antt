-- A map has one answer.
use Rattle.std.proofs.Common.{◌≡◌, ℕ, ◌+◌, List, [], ◌∷◌, Some, slice_get, sym, ap, ◌∙◌, subst, inl, inr}
use Rattle.jv_types.specs.declared.ids.MethodId.{MethodId}
use Rattle.jv_types.specs.declared.shapes.Shape.{Shape}
use Rattle.jv_types.specs.declared.shapes.MethodShape.{MethodShape}
use Rattle.jv_types.specs.declared.body.Body.{Body}
use Rattle.jv_types.specs.declared.frames.VType.{VType}
use Rattle.jv_types.specs.declared.frames.Frame.{Frame}
use Rattle.jv_pool.specs.declared.item.PoolItem.{PoolItem}
use Rattle.jv_attr.specs.declared.frame.MapFrame.{MapFrame}
use Rattle.jv_frames.specs.Types.{frame_of}
use Rattle.jv_frames.specs.Entry.{entry_types, AreEntryTypes}
use Rattle.jv_frames.specs.Maps.{frame_delta, AreMapFrames, IsFirstBad}
use Rattle.jv_names.proofs.NamedOnce.{given_twice}
use Rattle.jv_frames.proofs.Determined.{one_frame_locals, one_frame_stack}

pub one_map : (pool : List PoolItem) (body : Body) (base : ℕ) (before : List VType) (frames : List MapFrame) (rows others : List (ℕ × Frame)) → AreMapFrames pool body base before frames rows
    → AreMapFrames pool body base before frames others → rows ≡ others
one_map pool body base before [] rows others h k = h ∙ sym k
one_map pool body base before (f ∷ frames) rows others h k =
    let locals : h.0 ≡ k.0 = one_frame_locals pool before f h.0 h.1 k.0 k.1 h.3.types k.3.types in
    let stack : h.1 ≡ k.1 = one_frame_stack pool before f h.0 h.1 k.0 k.1 h.3.types k.3.types in
    let next : ℕ = base + frame_delta f + 1 in
    let rest : h.2 ≡ k.2 = one_map pool body next k.0 frames h.2 k.2 (subst (λ (l : List VType). AreMapFrames pool body next l frames h.2) locals h.5) k.5 in
    h.4 ∙ ap (λ (l : List VType). (base + frame_delta f, frame_of body.max_locals l h.1) ∷ h.2) locals
    ∙ ap (λ (l : List VType). (base + frame_delta f, frame_of body.max_locals k.0 l) ∷ h.2) stack
    ∙ ap (λ (l : List (ℕ × Frame)). (base + frame_delta f, frame_of body.max_locals k.0 k.1) ∷ l) rest
    ∙ sym k.4

pub one_bad : (pool : List PoolItem) (body : Body) (base : ℕ) (before : List VType) (frames : List MapFrame) (pc other : ℕ) → IsFirstBad pool body base before frames pc
    → IsFirstBad pool body base before frames other → pc ≡ other
one_bad pool body base before [] pc other h k = absurd h
one_bad pool body base before (f ∷ frames) pc other (inl h) (inl k) = h.0 ∙ sym k.0
one_bad pool body base before (f ∷ frames) pc other (inl h) (inr k) = absurd (h.1 k.0 k.1 k.2)
one_bad pool body base before (f ∷ frames) pc other (inr h) (inl k) = absurd (k.1 h.0 h.1 h.2)
one_bad pool body base before (f ∷ frames) pc other (inr h) (inr k) =
    let locals : h.0 ≡ k.0 = one_frame_locals pool before f h.0 h.1 k.0 k.1 h.2.types k.2.types in
    let next : ℕ = base + frame_delta f + 1 in
    one_bad pool body next k.0 frames pc other (subst (λ (l : List VType). IsFirstBad pool body next l frames pc) locals h.3) k.3

pub never_both : (pool : List PoolItem) (body : Body) (base : ℕ) (before : List VType) (frames : List MapFrame) (rows : List (ℕ × Frame)) (pc : ℕ)
    → AreMapFrames pool body base before frames rows → IsFirstBad pool body base before frames pc → ⊥
never_both pool body base before [] rows pc h k = k
never_both pool body base before (f ∷ frames) rows pc h (inl k) = k.1 h.0 h.1 h.3
never_both pool body base before (f ∷ frames) rows pc h (inr k) =
    let locals : h.0 ≡ k.0 = one_frame_locals pool before f h.0 h.1 k.0 k.1 h.3.types k.2.types in
    let next : ℕ = base + frame_delta f + 1 in
    never_both pool body next k.0 frames h.2 pc (subst (λ (l : List VType). AreMapFrames pool body next l frames h.2) locals h.5) k.3

-- the types with which a method begins are one list
pub one_entry : (w : List Shape) (id : MethodId) (a b : List VType) → AreEntryTypes w id a → AreEntryTypes w id b → a ≡ b
one_entry w id a b h k =
    let class : h.class ≡ k.class = given_twice _ h.class k.class h.class_at k.class_at in
    let method_at : _ = subst (λ (s : Shape). slice_get s.methods id.index ≡ Some h.method) class h.method_at in
    let method : h.method ≡ k.method = given_twice _ h.method k.method method_at k.method_at in
    h.are ∙ ap (λ (s : Shape). entry_types s.name h.method) class ∙ ap (λ (m : MethodShape). entry_types k.class.name m) method ∙ sym k.are
