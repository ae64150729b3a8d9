-- What is written is one thing: types, and the types of a frame.
use Rattle.std.proofs.Common.{◌≡◌, ℕ, ◌+◌, ◌-◌, ◌<◌, ◌++◌, List, length, take, get_or, Option, Some, None, Result, sym, ap, ◌∙◌, subst, arith}
use Rattle.std.specs.Prelude.{MatchOption}
use Rattle.std.specs.List.{AllZip}
use Rattle.std.proofs.lemmas.List.{length-append}
use Rattle.std.proofs.Math.Seq.{take-append_seam}
use Rattle.std.specs.declared.alloc.Global.{Global}
use Rattle.std.specs.declared.vec.Vec.{Vec}
use Rattle.jv_lists.proofs.Zips.{zip_at, one_zip}
use Rattle.jv_table.specs.declared.class_tables.FrameGroup.{FrameGroup}
use Rattle.jv_table.specs.declared.class_tables.FrameGroup.TheVariants.{Same, SameOne, SameOneExtended, Chop, SameExtended, Append, Full}
use Rattle.jv_types.specs.declared.desc.RefType.{RefType}
use Rattle.jv_types.specs.declared.body.Body.{Body}
use Rattle.jv_types.specs.declared.frames.VType.{VType}
use Rattle.jv_pool.specs.declared.item.PoolItem.{PoolItem}
use Rattle.jv_attr.specs.declared.frame.MapType.{MapType}
use Rattle.jv_attr.specs.declared.frame.MapFrame.{MapFrame}
use Rattle.jv_attr.specs.FrameText.{group_of}
use Rattle.jv_names.specs.Naming.{NamesType}
use Rattle.jv_read.specs.declared.fault.ReadFault.{ReadFault}
use Rattle.jv_read.specs.declared.fault.ReadFault.TheVariants as faults
use Rattle.jv_frames.specs.Types.{ref_vtype}
use Rattle.jv_names.specs.Finding.{NoneFor, Finds}
use Rattle.jv_names.proofs.NamedOnce.{one_type}
use Rattle.jv_frames.specs.Finding.{FindsList}
use Rattle.jv_frames.specs.Maps.{plain_type, IsNumbered, object, uninit, IsTypeOf, IsFront, AreLocalsIn, HasTypes, FitsBody, IsMapFrame}

-- ---- lists, place by place

-- ---- written types

one_numbered : (pool : List PoolItem) (t : MapType) (v u : VType) → IsNumbered pool t v → IsNumbered pool t u → v ≡ u
one_numbered pool t v u (object a seven names is) (object b other named was) = is ∙ ap ref_vtype (one_type pool t.arg a b names named) ∙ sym was
one_numbered pool t v u (object a seven names is) (uninit eight was) = absurd (omega arith)
one_numbered pool t v u (uninit eight is) (object b seven named was) = absurd (omega arith)
one_numbered pool t v u (uninit eight is) (uninit other was) = is ∙ sym was

pub one_written : (pool : List PoolItem) (t : MapType) (v u : VType) → IsTypeOf pool t v → IsTypeOf pool t u → v ≡ u
one_written pool t v u h k = by_plain (plain_type t.tag) h k
  where
    by_plain : (o : Option VType) → MatchOption o (IsNumbered pool t v) (λ plain. v ≡ plain) → MatchOption o (IsNumbered pool t u) (λ plain. u ≡ plain) → v ≡ u
    by_plain None x y = one_numbered pool t v u x y
    by_plain (Some plain) x y = x ∙ sym y

-- a tag that has a number names nothing where its number does
pub object_none : (pool : List PoolItem) (t : MapType) (e : ReadFault) → t.tag ≡ 7 → NoneFor (λ (of : RefType). NamesType pool t.arg of) e → NoneFor (λ (v : VType). IsNumbered pool t v) e
object_none pool t faults.Memory seven none = tt
object_none pool t faults.Bad seven none = λ v h. refuse v h
  where
    refuse : (v : VType) → IsNumbered pool t v → ⊥
    refuse v (object of tag names is) = none of names
    refuse v (uninit eight is) = absurd (omega arith)

-- where a tag has a number, the type is that of the number
pub numbered_found : (pool : List PoolItem) (t : MapType) (r : Result VType ReadFault) → plain_type t.tag ≡ None → Finds (λ (v : VType). IsNumbered pool t v) r
    → Finds (λ (v : VType). IsTypeOf pool t v) r
numbered_found pool t r none found =
    subst (λ (o : Option VType). Finds (λ (v : VType). MatchOption o (IsNumbered pool t v) (λ plain. v ≡ plain)) r) (sym none) found

-- where one is none, they all aren't
pub list_none : {A B : Type 0} (R : A → B → Type 0) (xs : List A) (i : ℕ) (d : A) (e : ReadFault) → i < length xs → NoneFor (λ (y : B). R (get_or xs i d) y) e → NoneFor (AllZip R xs) e
list_none R xs i d faults.Memory here none = tt
list_none R xs i d faults.Bad here none = λ ys zip. let at = zip_at R xs ys i d zip here in none at.0 at.1

-- ---- a frame's types

one_front : (before : List VType) (n : ℕ) (a b : List VType) → IsFront before n a → IsFront before n b → a ≡ b
one_front before n a b h k =
    let x : length before ≡ length a + n = ap length h.1 ∙ length-append a h.0 ∙ ap (λ m. length a + m) h.2 in
    let y : length before ≡ length b + n = ap length k.1 ∙ length-append b k.0 ∙ ap (λ m. length b + m) k.2 in
    let long : length a ≡ length b = omega arith in
    sym (take-append_seam a h.0) ∙ ap (λ m. take m (a ++ h.0)) long ∙ ap (take (length b)) (sym h.1 ∙ k.1) ∙ take-append_seam b k.0

one_locals : (pool : List PoolItem) (before : List VType) (f : MapFrame) (g : Option FrameGroup) (a b : List VType) → AreLocalsIn g pool before f a → AreLocalsIn g pool before f b → a ≡ b
one_locals pool before f None a b h k = absurd h
one_locals pool before f (Some Same) a b h k = h ∙ sym k
one_locals pool before f (Some SameOne) a b h k = h ∙ sym k
one_locals pool before f (Some SameOneExtended) a b h k = h ∙ sym k
one_locals pool before f (Some SameExtended) a b h k = h ∙ sym k
one_locals pool before f (Some Chop) a b h k = one_front before (251 - f.kind) a b h k
one_locals pool before f (Some Append) a b h k =
    h.2 ∙ ap (λ more. before ++ more) (one_zip (IsTypeOf pool) (one_written pool) f.locals h.0 k.0 h.1 k.1) ∙ sym k.2
one_locals pool before f (Some Full) a b h k = one_zip (IsTypeOf pool) (one_written pool) f.locals a b h k

-- a frame has one list of types of local variables, and one of stack items
pub one_frame_locals : (pool : List PoolItem) (before : List VType) (f : MapFrame) (a s b t : List VType) → HasTypes pool before f a s → HasTypes pool before f b t → a ≡ b
one_frame_locals pool before f a s b t h k = one_locals pool before f (group_of f.kind) a b h.locals_are k.locals_are

pub one_frame_stack : (pool : List PoolItem) (before : List VType) (f : MapFrame) (a s b t : List VType) → HasTypes pool before f a s → HasTypes pool before f b t → s ≡ t
one_frame_stack pool before f a s b t h k = one_zip (IsTypeOf pool) (one_written pool) f.stack s t h.stack_is k.stack_is

-- what is found for a group is found for the frame's
pub by_group : (pool : List PoolItem) (before : List VType) (f : MapFrame) (g : FrameGroup) (r : Result (Vec VType Global) ReadFault) → group_of f.kind ≡ Some g
    → FindsList (AreLocalsIn (Some g) pool before f) r → FindsList (AreLocalsIn (group_of f.kind) pool before f) r
by_group pool before f g r is found = subst (λ (o : Option FrameGroup). FindsList (AreLocalsIn o pool before f) r) (sym is) found

-- a frame whose types don't fit the body is none of its map
pub no_fit : (pool : List PoolItem) (body : Body) (base : ℕ) (before : List VType) (f : MapFrame) (locals stack : List VType) → HasTypes pool before f locals stack
    → (FitsBody body locals stack → ⊥) → (x y : List VType) → IsMapFrame pool body base before f x y → ⊥
no_fit pool body base before f locals stack has none x y frame =
    let a : x ≡ locals = one_frame_locals pool before f x y locals stack frame.types has in
    let b : y ≡ stack = one_frame_stack pool before f x y locals stack frame.types has in
    none (subst (λ (l : List VType). FitsBody body l stack) a (subst (λ (l : List VType). FitsBody body x l) b frame.fits))
