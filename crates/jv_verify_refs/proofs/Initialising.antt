-- What a constructor makes of the type of its receiver, and of a frame.
use Rattle.std.proofs.Common.{◌≡◌, ◌≤◌, ◌<◌, ℕ, Bool, false, if◌then◌else◌, IsTrue, slice_get, List, ◌∷◌, length, Some, sym, ap, ◌∙◌, subst, arith}
use Rattle.std.specs.Prelude.{◌⊎◌, ◌↔◌, None}
use Rattle.std.specs.List.{AllZip}
use Rattle.std.proofs.lemmas.Bool.{false≢true}
use Rattle.std.proofs.lemmas.Slice.Zip.{AllZip-long}
use Rattle.jv_types.specs.Bodies.{at_offset}
use Rattle.jv_types.specs.declared.desc.RefType.{RefType}
use Rattle.jv_types.specs.declared.desc.RefType as refs
use Rattle.jv_table.specs.declared.ops.TheConstants.{NEW}
use Rattle.jv_types.specs.declared.instruction.Arg.TheVariants as args
use Rattle.jv_types.specs.declared.instruction.Insn.{Insn}
use Rattle.jv_types.specs.declared.references.MethodRef.{MethodRef}
use Rattle.jv_types.specs.declared.shapes.Shape.{Shape}
use Rattle.jv_types.specs.declared.frames.VType.{VType, Top, UninitThis, Uninit, Class}
use Rattle.jv_types.specs.declared.frames.Frame.{Frame}
use Rattle.jv_resolve.proofs.Hierarchy.{one_shape}
use Rattle.jv_insn.specs.Effects.{effect_of}
use Rattle.jv_insn.specs.Kinds.{is_wide}
use Rattle.jv_frames.specs.Types.{is_object, is_uninit_this, in_words}
use Rattle.jv_frames.specs.Assignable.{IsAssignable, same, to_top, of_null, of_class, of_array, of_items}
use Rattle.jv_frames.proofs.Arrays.{is_object-Array}
use Rattle.jv_typing.specs.Transitions.{CanPop, IsReplaced, StandsBelow}
use Rattle.jv_typing.specs.References.{this, made, param_types}
use Rattle.jv_verify_refs.specs.declared.step.Step.{Step}
use Rattle.jv_verify_refs.specs.Steps.Parts.{Pops, IsOfThis, IsMadeAt, IsThisMade, Initialises, AreInitialised, CallsConstructor}
use Rattle.jv_verify_refs.proofs.Transits.{one_below}
use Rattle.jv_verify_refs.proofs.LowestWords.{lowest_fits, receiver_fits}

-- ---- the type

pub this_is : (step : Step) (class : RefType) (before after : VType) (name : List ℕ) → class ≡ refs.Class name → before ≡ UninitThis → IsThisMade step name after → Initialises step class before after
this_is step class before after name is e (current, at, either, m) = this before after current name e at is either m

one_name : (class : RefType) (a b : List ℕ) → class ≡ refs.Class a → class ≡ refs.Class b → a ≡ b
one_name class a b e f = let g : refs.Class a ≡ refs.Class b = sym e ∙ f in cc

not_both : (before : VType) (pc : ℕ) → before ≡ UninitThis → before ≡ Uninit pc → ⊥
not_both before pc e f = let g : UninitThis ≡ Uninit pc = sym e ∙ f in absurd cc

one_pc : (before : VType) (a b : ℕ) → before ≡ Uninit a → before ≡ Uninit b → a ≡ b
one_pc before a b e f = let g : Uninit a ≡ Uninit b = sym e ∙ f in cc

pub no_this : (step : Step) (class : RefType) (before : VType) (name : List ℕ) → class ≡ refs.Class name → before ≡ UninitThis → (IsOfThis step name → ⊥)
    → (after : VType) → Initialises step class before after → ⊥
no_this step class before name is e none after (this _ _ current other f at g either r) =
    none (current, at, subst (λ (n : List ℕ). (current.name ≡ n) ⊎ (current.parent ≡ Some n)) (one_name class other name g is) either)
no_this step class before name is e none after (made _ _ pc insn other f at g h k r) = not_both before pc e f

pub made_is : (step : Step) (class : RefType) (before after : VType) (pc : ℕ) (name : List ℕ) → class ≡ refs.Class name → before ≡ Uninit pc → IsMadeAt step pc class → after ≡ Class name
    → Initialises step class before after
made_is step class before after pc name is e (insn, at, op, arg) r = made before after pc insn name e at op arg is r

pub no_made : (step : Step) (class : RefType) (before : VType) (pc : ℕ) → before ≡ Uninit pc → (IsMadeAt step pc class → ⊥) → (after : VType) → Initialises step class before after → ⊥
no_made step class before pc e none after (this _ _ current other f at g either r) = not_both before pc f e
no_made step class before pc e none after (made _ _ other insn name f at g h k r) =
    none (insn, subst (λ (n : ℕ). at_offset n step.body.now.insns ≡ Some insn) (one_pc before other pc f e) at, g, h)

pub no_other : (step : Step) (class : RefType) (before : VType) → (before ≡ UninitThis → ⊥) → ((pc : ℕ) → before ≡ Uninit pc → ⊥) → (after : VType) → Initialises step class before after → ⊥
no_other step class before not_this not_made after (this _ _ current other f at g either r) = not_this f
no_other step class before not_this not_made after (made _ _ pc insn name f at g h k r) = not_made pc f

pub no_class : (step : Step) (class : RefType) (before : VType) → ((name : List ℕ) → class ≡ refs.Class name → ⊥) → (after : VType) → Initialises step class before after → ⊥
no_class step class before none after (this _ _ current other f at g either r) = none other g
no_class step class before none after (made _ _ pc insn name f at g h k r) = none name k

-- ---- the receiver

record IsUninitialised (type : VType) : Type 0 where
  narrow : is_wide type ≡ false
  not_top : type ≡ Top → ⊥
  no_object : is_object type ≡ false

uninitialised : (step : Step) (class : RefType) (before after : VType) → Initialises step class before after → IsUninitialised before
uninitialised step class before after (this _ _ current other f at g either r) = record {
  narrow = ap is_wide f;
  not_top = λ t. let q : Top ≡ UninitThis = sym t ∙ f in absurd cc;
  no_object = ap is_object f;
}
uninitialised step class before after (made _ _ pc insn name f at g h k r) = record {
  narrow = ap is_wide f;
  not_top = λ t. let q : Top ≡ Uninit pc = sym t ∙ f in absurd cc;
  no_object = ap is_object f;
}

-- only a type itself is assignable to one that isn't initialised
to_uninitialised : (w : List Shape) (a b : VType) → IsUninitialised b → IsAssignable w a b → a ≡ b
to_uninitialised w a b un (same _ _ e) = e
to_uninitialised w a b un (to_top _ _ e) = absurd (un.not_top e)
to_uninitialised w a b un (of_null _ _ e o) = absurd (false≢true (sym un.no_object ∙ o))
to_uninitialised w a b un (of_class _ _ name of e f h) = absurd (false≢true (sym un.no_object ∙ ap is_object f))
to_uninitialised w a b un (of_array _ _ of i f h) = absurd (false≢true (sym un.no_object ∙ ap is_object f))
to_uninitialised w a b un (of_items _ _ item other e f h) = absurd (false≢true (sym un.no_object ∙ ap is_object f ∙ is_object-Array other))

abbrev pub IsReceiver : Step → MethodRef → VType → Type 0
IsReceiver step method word = StandsBelow (length (in_words (param_types method.desc))) step.frame.now.stack word

pub no_receiver : (step : Step) (method : MethodRef) → ((word : VType) → IsReceiver step method word → ⊥) → (after : Frame) → CallsConstructor step method after → ⊥
no_receiver step method none after h =
    let un = uninitialised step method.class h.before h.made h.initialised in
    let low = lowest_fits step.world.now (effect_of step.insn.now).takes step.frame.now.stack h.before (param_types method.desc) un.narrow h.pops in
    none low.word low.stands

same_before : (step : Step) (method : MethodRef) (before : VType) (after : Frame) → IsReceiver step method before → (h : CallsConstructor step method after) → before ≡ h.before
same_before step method before after stands h =
    let un = uninitialised step method.class h.before h.made h.initialised in
    to_uninitialised step.world.now before h.before un
    (receiver_fits step.world.now (effect_of step.insn.now).takes step.frame.now.stack before h.before (param_types method.desc) un.narrow stands h.pops)

pub no_initialised : (step : Step) (method : MethodRef) (before : VType) → IsReceiver step method before → ((after : VType) → Initialises step method.class before after → ⊥)
    → (after : Frame) → CallsConstructor step method after → ⊥
no_initialised step method before stands none after h =
    none h.made (subst (λ (t : VType). Initialises step method.class t h.made) (sym (same_before step method before after stands h)) h.initialised)

pub no_popped : (step : Step) (method : MethodRef) (before : VType) → IsReceiver step method before
    → (CanPop step.world.now (effect_of step.insn.now).takes (before ∷ param_types method.desc) step.frame.now.stack → ⊥) → (after : Frame) → CallsConstructor step method after → ⊥
no_popped step method before stands none after h =
    none (subst (λ (t : VType). CanPop step.world.now (effect_of step.insn.now).takes (t ∷ param_types method.desc) step.frame.now.stack)
    (sym (same_before step method before after stands h)) h.pops)

-- ---- the frame

pub constructs : (step : Step) (method : MethodRef) (before type : VType) (below : List VType) (after : Frame) → method.desc.result ≡ None → Initialises step method.class before type
    → Pops step.world.now (effect_of step.insn.now).takes (before ∷ param_types method.desc) step.frame.now.stack below → AreInitialised step before type below after
    → CallsConstructor step method after
constructs step method before type below after no_result initialised pops are = record {
  no_result = no_result;
  before = before;
  made = type;
  initialised = initialised;
  pops = pops.0;
  stack = subst (λ (ws : List VType). AllZip (IsReplaced before type) ws after.stack) (sym pops.1) are.stack;
  locals = are.locals;
  room = are.room;
  flag = are.flag;
}

pub no_room : (step : Step) (method : MethodRef) (before : VType) (below : List VType)
    → Pops step.world.now (effect_of step.insn.now).takes (before ∷ param_types method.desc) step.frame.now.stack below → step.body.now.max_stack < length below
    → (after : Frame) → CallsConstructor step method after → ⊥
no_room step method before below pops more after h =
    let belows = one_below step.world.now (effect_of step.insn.now).takes (before ∷ param_types method.desc) (h.before ∷ param_types method.desc) step.frame.now.stack below pops h.pops in
    let long : length after.stack ≡ length h.pops.takes.below = AllZip-long (IsReplaced h.before h.made) h.pops.takes.below after.stack h.stack in
    let as_long : length after.stack ≡ length below = long ∙ ap length belows in
    let room : length after.stack ≤ step.body.now.max_stack = h.room in
    absurd (omega arith)

-- ---- the current class, and the `new` at an offset

pub of_this : (step : Step) (current : Shape) (name : List ℕ) (b : Bool) → slice_get step.world.now step.from.number ≡ Some current
    → IsTrue b ↔ ((current.name ≡ name) ⊎ (current.parent ≡ Some name)) → IsTrue b ↔ IsOfThis step name
of_this step current name b at says = (
  λ t. (current, at, says.0 t),
  λ h.
      says.1 (subst (λ (s : Shape). (s.name ≡ name) ⊎ (s.parent ≡ Some name)) (one_shape step.world.now step.from.number h.0 current h.1 at) h.2),
)

pub this_made_is : (step : Step) (name : List ℕ) (type : VType) → IsOfThis step name
    → ((class : Shape) × (slice_get step.world.now step.from.number ≡ Some class) × (type ≡ Class class.name)) → IsThisMade step name type
this_made_is step name type h k =
    (k.0, k.1, subst (λ (s : Shape). (s.name ≡ name) ⊎ (s.parent ≡ Some name)) (one_shape step.world.now step.from.number h.0 k.0 h.1 k.1) h.2, k.2)

pub made_at : (step : Step) (pc : ℕ) (class : RefType) (insn : Insn) (b : Bool) → at_offset pc step.body.now.insns ≡ Some insn
    → IsTrue b ↔ ((insn.op ≡ NEW) × (insn.arg ≡ args.Class class)) → IsTrue b ↔ IsMadeAt step pc class
made_at step pc class insn b at says = (
  λ t. let k = says.0 t in (insn, at, k.0, k.1),
  λ h.
      let e : Some h.0 ≡ Some insn = sym h.1 ∙ at in
      let same_insn : h.0 ≡ insn = cc in
      says.1 (subst (λ (i : Insn). (i.op ≡ NEW) × (i.arg ≡ args.Class class)) same_insn (h.2, h.3)),
)

pub none_at_offset : (step : Step) (pc : ℕ) (class : RefType) → at_offset pc step.body.now.insns ≡ None → IsMadeAt step pc class → ⊥
none_at_offset step pc class e h = let f : None ≡ Some h.0 = sym e ∙ h.1 in absurd cc

pub are_initialised : (step : Step) (before type : VType) (below locals stack : List VType) (flag : Bool) → AllZip (IsReplaced before type) step.frame.now.locals locals
    → AllZip (IsReplaced before type) below stack → length below ≤ step.body.now.max_stack → flag ≡ (if is_uninit_this before then false else step.frame.now.this_uninit)
    → AreInitialised step before type below (record { locals = locals; stack = stack; this_uninit = flag })
are_initialised step before type below locals stack flag in_locals on_stack room e =
    let long : length stack ≡ length below = AllZip-long (IsReplaced before type) below stack on_stack in
    let fits : length stack ≤ step.body.now.max_stack = omega arith in
    record { stack = on_stack; locals = in_locals; room = fits; flag = e }
