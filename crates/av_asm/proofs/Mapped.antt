-- What is written stands for the types that were written.
use Rattle.std.proofs.Common.{◌≡◌, ℕ, ◌+◌, ◌-◌, ◌≤◌, true, List, [], ◌∷◌, ◌++◌, length, Some, refl, sym, ap, subst, ◌∙◌, arith}
use Rattle.std.specs.Prelude.{All}
use Rattle.std.specs.List.{AllByRecursion, AllZip}
use Rattle.std.proofs.lemmas.Bool.{false≢true}
use Rattle.std.proofs.lemmas.List.Elements.{All-from_recursion, recursion_from_All}
use Rattle.jv_types.specs.Bodies.{rises_from, IsStart}
use Rattle.jv_types.specs.declared.desc.RefType.{RefType}
use Rattle.jv_types.specs.declared.instruction.Insn.{Insn}
use Rattle.jv_types.specs.declared.body.Body.{Body}
use Rattle.jv_types.specs.declared.frames.VType.{VType, Top, Integer, Float, Long, Double, Null, UninitThis, Uninit, Class, PrimArray, Array'}
use Rattle.jv_types.specs.declared.frames.Frame.{Frame}
use Rattle.jv_desc.specs.Texts.{IsRef}
use Rattle.jv_pool.specs.declared.item.PoolItem.{PoolItem}
use Rattle.jv_table.specs.declared.class_tables.FrameGroup.TheVariants.{Full}
use Rattle.jv_attr.specs.FrameText.{group_of}
use Rattle.jv_attr.specs.declared.frame.MapType.{MapType}
use Rattle.jv_attr.specs.declared.frame.MapFrame.{MapFrame}
use Rattle.jv_read.specs.Reading.{◌>>=◌}
use Rattle.jv_read.proofs.Fronts.{bind_some, given_as}
use Rattle.jv_names.specs.Naming.{type_text, IsTypeText}
use Rattle.jv_frames.specs.Types.{is_object, in_words, frame_of}
use Rattle.jv_frames.specs.Maps.{delta_in, frame_delta, AreLocalsIn, object, uninit, IsTypeOf, HasTypes, IsMade, AreMapFrames}
use Rattle.jv_insn.specs.Entries.{put_class, class_place, Grows}
use Rattle.jv_insn.proofs.Placed.{grows_on, class_put, class_stays}
use Rattle.jv_insn.proofs.Named.{class_named}
use Rattle.jv_types.specs.declared.desc.RefType as refs
use Rattle.av_asm.specs.Mapping.{put_each, object_text, IsMapped, map_type, put_object, put_type, values_of, put_frame, deltas_from}
use Rattle.av_asm.specs.Finishing.{IsFullFrame}
use Rattle.av_asm.proofs.Putting.{grows_not, put_first}
use Rattle.av_asm.proofs.Marks.{rises_first}
use Rattle.av_asm.proofs.RefTypes.{object_text-vtype}
use Rattle.av_asm.proofs.Values.{tops, each_behind, locals_are, frame_back, stack_back}

-- ---- a type

spelled : (type : RefType) → IsRef 255 type → IsTypeText (type_text type) type
spelled (refs.Class name) h = (refl, h.named)
spelled (refs.PrimArray prim) h = record { valid = h; spelled = refl }
spelled (refs.Array' shape all) h = record { valid = h; spelled = refl }

-- what was written of a type, over the pool and whatever that grows to
pub record IsWrittenType (old new : List PoolItem) (type : VType) (m : MapType) : Type 0 where
  pub grows : Grows old new
  pub is : (later : List PoolItem) → Grows new later → IsTypeOf later m type

object_written : (type : VType) (old : List PoolItem) (made : MapType × List PoolItem) → is_object type ≡ true → IsMapped type → put_object type old ≡ Some made → IsWrittenType old made.1 type made.0
object_written type old made is mapped e =
    let of = mapped is in
    let a = bind_some (put_class (object_text type) old) (λ named. Some (map_type 7 named.0, named.1)) made e in
    let p = class_put (object_text type) old a.0 a.1 in
    let text : object_text type ≡ type_text of.0 = object_text-vtype type of.0 of.1 in
    let stands : class_place a.0.1 (type_text of.0) ≡ Some a.0.0 = subst (λ (t : List ℕ). class_place a.0.1 t ≡ Some a.0.0) text p.stands in
    let here : MapType × List PoolItem = (map_type 7 a.0.0, a.0.1) in
    given_as (λ (w : MapType × List PoolItem). IsWrittenType old w.1 type w.0) here made a.2
    (record {
      grows = p.grows;
      is = λ later grows.
          let there : class_place later (type_text of.0) ≡ Some a.0.0 =
          ap (λ (q : List PoolItem). class_place q (type_text of.0)) grows.1 ∙ class_stays a.0.1 grows.0 (type_text of.0) a.0.0 stands in
          object of.0 refl (record { text = type_text of.0; found = class_named later (type_text of.0) a.0.0 there; spelled = spelled of.0 of.2 }) of.1;
    })

plain_written : (type : VType) (old : List PoolItem) (m : MapType) (made : MapType × List PoolItem) → ((later : List PoolItem) → IsTypeOf later m type) → Some (m, old) ≡ Some made → IsWrittenType old made.1 type made.0
plain_written type old m made is e =
    let here : MapType × List PoolItem = (m, old) in
    given_as (λ (w : MapType × List PoolItem). IsWrittenType old w.1 type w.0) here made e (record { grows = grows_not old; is = λ later grows. is later })

type_written : (type : VType) (old : List PoolItem) (made : MapType × List PoolItem) → IsMapped type → put_type type old ≡ Some made → IsWrittenType old made.1 type made.0
type_written Top old made mapped e = plain_written Top old (map_type 0 0) made (λ later. refl) e
type_written Integer old made mapped e = plain_written Integer old (map_type 1 0) made (λ later. refl) e
type_written Float old made mapped e = plain_written Float old (map_type 2 0) made (λ later. refl) e
type_written Double old made mapped e = plain_written Double old (map_type 3 0) made (λ later. refl) e
type_written Long old made mapped e = plain_written Long old (map_type 4 0) made (λ later. refl) e
type_written Null old made mapped e = plain_written Null old (map_type 5 0) made (λ later. refl) e
type_written UninitThis old made mapped e = plain_written UninitThis old (map_type 6 0) made (λ later. refl) e
type_written (Uninit pc) old made mapped e = plain_written (Uninit pc) old (map_type 8 pc) made (λ later. uninit refl refl) e
type_written (Class name) old made mapped e = object_written (Class name) old made refl mapped e
type_written (PrimArray prim) old made mapped e = object_written (PrimArray prim) old made refl mapped e
type_written (Array' shape items) old made mapped e = object_written (Array' shape items) old made refl mapped e

-- ---- types

pub record AreWrittenTypes (old new : List PoolItem) (types : List VType) (written : List MapType) : Type 0 where
  pub grows : Grows old new
  pub are : (later : List PoolItem) → Grows new later → AllZip (IsTypeOf later) written types

pub types_written : (types : List VType) (old new : List PoolItem) (written : List MapType) → AllByRecursion IsMapped types → put_each put_type types old ≡ Some (written, new) → AreWrittenTypes old new types written
types_written [] old new written mapped e =
    let here : List MapType × List PoolItem = ([], old) in
    let made : List MapType × List PoolItem = (written, new) in
    given_as (λ (w : List MapType × List PoolItem). AreWrittenTypes old w.1 [] w.0) here made e (record { grows = grows_not old; are = λ later grows. tt })
types_written (t ∷ types) old new written mapped e =
    let h = put_first put_type t types old new written e in
    let one = type_written t old h.first mapped.0 h.one_is in
    let more = types_written types h.first.1 h.more.1 h.more.0 mapped.1 h.more_are in
    let all : AreWrittenTypes old h.more.1 (t ∷ types) (h.first.0 ∷ h.more.0) = record {
      grows = grows_on old h.first.1 h.more.1 one.grows more.grows;
      are = λ later grows. (one.is later (grows_on h.first.1 h.more.1 later more.grows grows), more.are later grows);
    } in
    subst (λ (w : List MapType). AreWrittenTypes old new (t ∷ types) w) (sym h.written_are) (subst (λ (p : List PoolItem). AreWrittenTypes old p (t ∷ types) (h.first.0 ∷ h.more.0)) (sym h.now_is) all)

-- ---- a frame

full_group : group_of 255 ≡ Some Full
unfolding group_of
full_group = refl

pub record IsWrittenFrame (old new : List PoolItem) (max_locals : ℕ) (insns : List (ℕ × Insn)) (delta : ℕ) (frame : Frame) (f : MapFrame) : Type 0 where
  pub grows : Grows old new
  pub locals : List VType
  pub stack : List VType
  pub delta_is : frame_delta f ≡ delta
  pub types : (later : List PoolItem) (before : List VType) → Grows new later → HasTypes later before f locals stack
  pub is : frame ≡ frame_of max_locals locals stack
  pub fits : length (in_words locals) ≤ max_locals
  pub locals_made : All (IsMade insns) locals
  pub stack_made : All (IsMade insns) stack

top_mapped : IsMapped Top
top_mapped is = absurd (false≢true is)

-- the values of the frame's words are written, and make the same frame
frame_written : (max_locals : ℕ) (insns : List (ℕ × Insn)) (delta : ℕ) (frame : Frame) (old : List PoolItem) (made : MapFrame × List PoolItem) → IsFullFrame max_locals insns frame → put_frame (delta, frame) old ≡ Some made
    → IsWrittenFrame old made.1 max_locals insns delta frame made.0
frame_written max_locals insns delta frame old made full e =
    let l = locals_are max_locals full.locals full.fits in
    let locals = full.locals ++ tops l.count in
    let values : values_of frame.locals ≡ locals = ap (λ (f : Frame). values_of f.locals) full.is ∙ l.values in
    let stacked : values_of frame.stack ≡ full.stack = ap (λ (f : Frame). values_of f.stack) full.is ∙ stack_back full.stack in
    let a = bind_some (put_each put_type (values_of frame.locals) old)
    (λ locals. put_each put_type (values_of frame.stack) locals.1 >>= λ stack. Some (record { kind = 255; delta = delta; locals = locals.0; stack = stack.0 }, stack.1)) made e in
    let b = bind_some (put_each put_type (values_of frame.stack) a.0.1) (λ stack. Some (record { kind = 255; delta = delta; locals = a.0.0; stack = stack.0 }, stack.1)) made a.2 in
    let first = types_written locals old a.0.1 a.0.0 (each_behind IsMapped full.locals l.count top_mapped full.locals_mapped) (subst (λ (ts : List VType). put_each put_type ts old ≡ Some a.0) values a.1) in
    let second = types_written full.stack a.0.1 b.0.1 b.0.0 full.stack_mapped (subst (λ (ts : List VType). put_each put_type ts a.0.1 ≡ Some b.0) stacked b.1) in
    let here : MapFrame × List PoolItem = (record { kind = 255; delta = delta; locals = a.0.0; stack = b.0.0 }, b.0.1) in
    given_as (λ (w : MapFrame × List PoolItem). IsWrittenFrame old w.1 max_locals insns delta frame w.0) here made b.2
    (record {
      grows = grows_on old a.0.1 b.0.1 first.grows second.grows;
      locals = locals;
      stack = full.stack;
      delta_is = ap (λ (g : _). delta_in g here.0) full_group;
      types = λ later before grows. record {
        locals_are = subst (λ (g : _). AreLocalsIn g later before here.0 locals) (sym full_group) (first.are later (grows_on a.0.1 b.0.1 later second.grows grows));
        stack_is = second.are later grows;
      };
      is = full.is ∙ sym (frame_back max_locals full.locals full.stack l);
      fits = omega (arith, l.long);
      locals_made = All-from_recursion (IsMade insns) locals (each_behind (IsMade insns) full.locals l.count tt (recursion_from_All (IsMade insns) full.locals full.locals_made));
      stack_made = full.stack_made;
    })

-- ---- a map

pub record AreWrittenFrames (old new : List PoolItem) (body : Body) (base : ℕ) (rows : List (ℕ × Frame)) (frames : List MapFrame) : Type 0 where
  pub grows : Grows old new
  pub are : (later : List PoolItem) (before : List VType) → Grows new later → AreMapFrames later body base before frames rows

-- the written frames of a body stand for its frames
pub frames_written : (body : Body) (base : ℕ) (rows : List (ℕ × Frame)) (old new : List PoolItem) (written : List MapFrame) → rises_from base rows ≡ true
    → AllByRecursion (λ (row : ℕ × Frame). IsStart body.insns row.0) rows → AllByRecursion (λ (row : ℕ × Frame). length row.1.stack ≤ body.max_stack) rows
    → AllByRecursion (λ (row : ℕ × Frame). IsFullFrame body.max_locals body.insns row.1) rows → put_each put_frame (deltas_from base rows) old ≡ Some (written, new) → AreWrittenFrames old new body base rows written
frames_written body base [] old new written rising starts stacks full e =
    let here : List MapFrame × List PoolItem = ([], old) in
    let made : List MapFrame × List PoolItem = (written, new) in
    given_as (λ (w : List MapFrame × List PoolItem). AreWrittenFrames old w.1 body base [] w.0) here made e (record { grows = grows_not old; are = λ later before grows. refl })
frames_written body base (row ∷ rows) old new written rising starts stacks full e =
    let h = put_first put_frame (row.0 - base, row.1) (deltas_from (row.0 + 1) rows) old new written e in
    let f = h.first.0 in
    let rise = rises_first base row rows rising in
    let one = frame_written body.max_locals body.insns (row.0 - base) row.1 old h.first full.0 h.one_is in
    let more = frames_written body (row.0 + 1) rows h.first.1 h.more.1 h.more.0 rise.1 starts.1 stacks.1 full.1 h.more_are in
    let here : base + frame_delta f ≡ row.0 = omega (arith, one.delta_is, rise.0) in
    let stack_fits : length (in_words one.stack) ≤ body.max_stack = subst (λ (g : Frame). length g.stack ≤ body.max_stack) one.is stacks.0 in
    let all : AreWrittenFrames old h.more.1 body base (row ∷ rows) (f ∷ h.more.0) = record {
      grows = grows_on old h.first.1 h.more.1 one.grows more.grows;
      are = λ later before grows. (
        one.locals,
        one.stack,
        rows,
        record {
          at_instruction = subst (IsStart body.insns) (sym here) starts.0;
          types = one.types later before (grows_on h.first.1 h.more.1 later more.grows grows);
          fits = record { locals_fit = one.fits; stack_fits = stack_fits; locals_made = one.locals_made; stack_made = one.stack_made };
        },
        ap (λ (k : ℕ). let r : ℕ × Frame = (k, row.1) in r ∷ rows) (sym here)
            ∙ ap (λ (g : Frame). let r : ℕ × Frame = (base + frame_delta f, g) in r ∷ rows) one.is,
        subst (λ (k : ℕ). AreMapFrames later body (k + 1) one.locals h.more.0 rows) (sym here) (more.are later one.locals grows),
      );
    } in
    subst (λ (w : List MapFrame). AreWrittenFrames old new body base (row ∷ rows) w) (sym h.written_are) (subst (λ (p : List PoolItem). AreWrittenFrames old p body base (row ∷ rows) (f ∷ h.more.0)) (sym h.now_is) all)
