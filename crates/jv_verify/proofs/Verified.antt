-- What a verified method has, and that a method has one answer.
use Rattle.std.proofs.Common.{◌≡◌, ◌≤◌, ℕ, List, sym, ◌∙◌, subst, arith}
use Rattle.jv_types.specs.declared.ids.MethodId.{MethodId}
use Rattle.jv_types.specs.declared.rule.Rule.{Rule}
use Rattle.jv_types.specs.declared.shapes.Shape.{Shape}
use Rattle.jv_types.specs.declared.body.Body.{Body}
use Rattle.jv_types.specs.declared.frames.VType.{VType}
use Rattle.jv_types.specs.declared.frames.Frame.{Frame}
use Rattle.jv_types.specs.declared.frames.FramedBody.{FramedBody}
use Rattle.jv_pool.specs.declared.item.PoolItem.{PoolItem}
use Rattle.jv_attr.specs.declared.attr.CodeAttr.{CodeAttr}
use Rattle.jv_class.specs.declared.class_file.ClassFile.{ClassFile}
use Rattle.jv_class.specs.ClassTexts.{AreDistinct}
use Rattle.jv_insn.specs.KindSafe.{IsKindSafe}
use Rattle.jv_frames.specs.Maps.{written_frames, AreMapFrames, IsFirstBad, AreFramesOf, FailsFirstAt}
use Rattle.jv_frames.proofs.OneAnswer.{one_map, one_bad, never_both, one_entry}
use Rattle.jv_typing.specs.TypeSafe.{AreMapsOf, IsTypeSafe, TypeSafe, FailsLeastAt}
use Rattle.jv_typing_laws.proofs.Forced.{one_table}
use Rattle.jv_typing_laws.proofs.Failing.{never_fails}
use Rattle.jv_typing_laws.proofs.KindSafety.{kind_safe}
use Rattle.jv_verify.specs.Verified.{IsVerified, IsUnverified, no_maps, no_table}
use Rattle.jv_verify.proofs.OneCode.{one_code}

-- the maps of a verified method, for its own body
own_maps : (w : List Shape) (class : ClassFile) (id : MethodId) (body : Body) (framed : FramedBody) (h : IsVerified w class id body framed) → AreMapsOf w framed.method framed.body h.maps
own_maps w class id body framed h =
    let here : AreMapsOf w id body h.maps = record {
      pool = class.pool;
      written = written_frames h.code.attrs;
      types = h.are_maps.types;
      entry = h.are_maps.entry;
      frames = h.are_maps.frames;
    } in
    subst (λ (m : MethodId). AreMapsOf w m framed.body h.maps) (sym h.method) (subst (λ (b : Body). AreMapsOf w id b h.maps) (sym h.same_body) here)

own_table : (w : List Shape) (class : ClassFile) (id : MethodId) (body : Body) (framed : FramedBody) (h : IsVerified w class id body framed) → IsTypeSafe w framed.method framed.body h.maps framed.frames
own_table w class id body framed h =
    subst (λ (m : MethodId). IsTypeSafe w m framed.body h.maps framed.frames) (sym h.method) (subst (λ (b : Body). IsTypeSafe w id b h.maps framed.frames) (sym h.same_body) h.table)

pub is_type_safe : (w : List Shape) (class : ClassFile) (id : MethodId) (body : Body) (framed : FramedBody) → IsVerified w class id body framed → TypeSafe w framed
is_type_safe w class id body framed h = (h.maps, own_maps w class id body framed h, own_table w class id body framed h)

pub is_kind_safe : (w : List Shape) (class : ClassFile) (id : MethodId) (body : Body) (framed : FramedBody) → IsVerified w class id body framed → IsKindSafe w framed
is_kind_safe w class id body framed h = kind_safe w framed h.maps (own_maps w class id body framed h) (own_table w class id body framed h)

-- ---- one answer

same_maps : (w : List Shape) (id : MethodId) (pool : List PoolItem) (code : CodeAttr) (body : Body) (maps others : List (ℕ × Frame)) → AreFramesOf w id pool code body maps
    → AreFramesOf w id pool code body others → maps ≡ others
same_maps w id pool code body maps others a b =
    let entry : a.types ≡ b.types = one_entry w id a.types b.types a.entry b.entry in
    one_map pool body 0 b.types (written_frames code.attrs) maps others (subst (λ (types : List VType). AreMapFrames pool body 0 types (written_frames code.attrs) maps) entry a.frames) b.frames

made : MethodId → Body → List (ℕ × Frame) → FramedBody
made method body frames = record { method = method; body = body; frames = frames }

pub one_verified : (w : List Shape) (class : ClassFile) (id : MethodId) (body : Body) (framed other : FramedBody) → AreDistinct class.pool class.methods → IsVerified w class id body framed
    → IsVerified w class id body other → framed ≡ other
one_verified w class id body framed other distinct a b =
    let code : a.code ≡ b.code = one_code w class id a.code b.code distinct a.is b.is in
    let maps : a.maps ≡ b.maps = same_maps w id class.pool b.code body a.maps b.maps (subst (λ (c : CodeAttr). AreFramesOf w id class.pool c body a.maps) code a.are_maps) b.are_maps in
    let frames : framed.frames ≡ other.frames = one_table w id body b.maps framed.frames other.frames (subst (λ (m : List (ℕ × Frame)). IsTypeSafe w id body m framed.frames) maps a.table) b.table in
    let method : framed.method ≡ other.method = a.method ∙ sym b.method in
    let bodies : framed.body ≡ other.body = a.same_body ∙ sym b.same_body in
    λ i. record { method = method i; body = bodies i; frames = frames i }

pub never_refused : (w : List Shape) (class : ClassFile) (id : MethodId) (body : Body) (framed : FramedBody) (rule : Rule) (pc : ℕ) → AreDistinct class.pool class.methods
    → IsVerified w class id body framed → IsUnverified w class id body rule pc → ⊥
never_refused w class id body framed rule pc distinct a (no_maps code is _ fails) =
    let same : a.code ≡ code = one_code w class id a.code code distinct a.is is in
    let are : AreFramesOf w id class.pool code body a.maps = subst (λ (c : CodeAttr). AreFramesOf w id class.pool c body a.maps) same a.are_maps in
    let entry : are.types ≡ fails.types = one_entry w id are.types fails.types are.entry fails.entry in
    never_both class.pool body 0 fails.types (written_frames code.attrs) a.maps pc
    (subst (λ (types : List VType). AreMapFrames class.pool body 0 types (written_frames code.attrs) a.maps) entry are.frames) fails.bad
never_refused w class id body framed rule pc distinct a (no_table code maps is _ are fails) =
    let same : a.code ≡ code = one_code w class id a.code code distinct a.is is in
    let own : a.maps ≡ maps = same_maps w id class.pool code body a.maps maps (subst (λ (c : CodeAttr). AreFramesOf w id class.pool c body a.maps) same a.are_maps) are in
    never_fails w id body maps framed.frames pc (subst (λ (m : List (ℕ × Frame)). IsTypeSafe w id body m framed.frames) own a.table) fails.fails

-- ---- one refusal

least_is_one : (w : List Shape) (id : MethodId) (body : Body) (maps : List (ℕ × Frame)) (pc other : ℕ) → FailsLeastAt w id body maps pc → FailsLeastAt w id body maps other → pc ≡ other
least_is_one w id body maps pc other a b =
    let le : pc ≤ other = a.least other b.fails in
    let ge : other ≤ pc = b.least pc a.fails in
    omega arith

-- the frames of a map, or the first that is none, of one code
apart : (w : List Shape) (id : MethodId) (pool : List PoolItem) (code : CodeAttr) (body : Body) (maps : List (ℕ × Frame)) (pc : ℕ) → AreFramesOf w id pool code body maps
    → FailsFirstAt w id pool code body pc → ⊥
apart w id pool code body maps pc are fails =
    let entry : are.types ≡ fails.types = one_entry w id are.types fails.types are.entry fails.entry in
    never_both pool body 0 fails.types (written_frames code.attrs) maps pc
    (subst (λ (types : List VType). AreMapFrames pool body 0 types (written_frames code.attrs) maps) entry are.frames) fails.bad

first_is_one : (w : List Shape) (id : MethodId) (pool : List PoolItem) (code : CodeAttr) (body : Body) (pc other : ℕ) → FailsFirstAt w id pool code body pc → FailsFirstAt w id pool code body other → pc ≡ other
first_is_one w id pool code body pc other a b =
    let entry : a.types ≡ b.types = one_entry w id a.types b.types a.entry b.entry in
    one_bad pool body 0 b.types (written_frames code.attrs) pc other
    (subst (λ (types : List VType). IsFirstBad pool body 0 types (written_frames code.attrs) pc) entry a.bad) b.bad

pub one_refusal : (w : List Shape) (class : ClassFile) (id : MethodId) (body : Body) (rule another : Rule) (pc other : ℕ) → AreDistinct class.pool class.methods
    → IsUnverified w class id body rule pc → IsUnverified w class id body another other → (rule ≡ another) × (pc ≡ other)
one_refusal w class id body rule another pc other distinct (no_maps code is by fails) (no_maps code' is' by' fails') =
    let same : code ≡ code' = one_code w class id code code' distinct is is' in
    (by ∙ sym by', first_is_one w id class.pool code' body pc other (subst (λ (c : CodeAttr). FailsFirstAt w id class.pool c body pc) same fails) fails')
one_refusal w class id body rule another pc other distinct (no_maps code is by fails) (no_table code' maps' is' by' are' fails') =
    let same : code ≡ code' = one_code w class id code code' distinct is is' in
    absurd (apart w id class.pool code' body maps' pc are' (subst (λ (c : CodeAttr). FailsFirstAt w id class.pool c body pc) same fails))
one_refusal w class id body rule another pc other distinct (no_table code maps is by are fails) (no_maps code' is' by' fails') =
    let same : code ≡ code' = one_code w class id code code' distinct is is' in
    absurd (apart w id class.pool code' body maps other (subst (λ (c : CodeAttr). AreFramesOf w id class.pool c body maps) same are) fails')
one_refusal w class id body rule another pc other distinct (no_table code maps is by are fails) (no_table code' maps' is' by' are' fails') =
    let same : code ≡ code' = one_code w class id code code' distinct is is' in
    let own : maps ≡ maps' = same_maps w id class.pool code' body maps maps' (subst (λ (c : CodeAttr). AreFramesOf w id class.pool c body maps) same are) are' in
    (by ∙ sym by', least_is_one w id body maps' pc other (subst (λ (m : List (ℕ × Frame)). FailsLeastAt w id body m pc) own fails) fails')
