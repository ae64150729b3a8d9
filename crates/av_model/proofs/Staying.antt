-- Objects stay, and keep their types and labels: by each family of steps, and by each step.
use Rattle.std.proofs.Common.{◌≡◌, ℕ, List, [], ◌∷◌, ◌++◌, Some, map, length, refl, sym, ap, ◌∙◌, append_assoc}
use Rattle.std.specs.Prelude.{slice_get}
use Rattle.std.proofs.lemmas.Option.{get_or_from_slice_get}
use Rattle.std.proofs.lemmas.List.{map-append, append-nil}
use Rattle.std.proofs.Math.Seq.{map-set_same}
use Rattle.jv_types.specs.declared.frames.FramedBody.{FramedBody}
use Rattle.jv_types.specs.declared.instruction.Insn.{Insn}
use Rattle.jv_types.specs.declared.label.Label.{Label}
use Rattle.jv_types.specs.declared.label.Label.TheVariants as labels
use Rattle.jv_types.specs.declared.label.LibBase.TheVariants as bases
use Rattle.jv_types.specs.declared.shapes.Shape.{Shape}
use Rattle.av_states.specs.declared.event.Choice.{Choice}
use Rattle.av_states.specs.declared.held.Held.{Held}
use Rattle.av_states.specs.declared.held.Held.TheVariants.{Ref, Word}
use Rattle.av_states.specs.declared.run_type.RunType.{RunType, Lib}
use Rattle.av_states.specs.declared.state.Activation.{Activation}
use Rattle.av_states.specs.declared.state.CellKey.{CellKey}
use Rattle.av_states.specs.declared.state.CellKey.TheVariants.{Field, Index}
use Rattle.av_states.specs.declared.state.HeapObject.{HeapObject}
use Rattle.av_states.specs.declared.state.State.{State}
use Rattle.jv_types.specs.declared.ids.MethodId.{MethodId}
use Rattle.av_model.specs.AppSteps.{AppStep, Does, moves_words, loads_constant, uses_field, uses_item, makes_one, tests_object, Performs, goes_on_in_frame, makes_nested, calls, returns, throws, initialises, Steps, by_insn, by_raise, by_unwind, by_raise_instead, Outcome}
use Rattle.av_model.specs.Calling.{Callee, Enters, own_method, object_init, object_finalize, library_method, unseen_method}
use Rattle.av_model.specs.Elements.{UsesItem, by_aaload, by_aastore, by_load, by_store}
use Rattle.av_model.specs.Events.{Target, MethodCall}
use Rattle.av_model.specs.Fields.{UsesField, by_getstatic, by_putstatic, by_getfield, by_putfield}
use Rattle.av_model.specs.Holding.{make, make_all_known, make_fresh, make_known, write_cell, write_object, write_static}
use Rattle.av_model.specs.Keeping.{KeepsObjects, origin_of}
use Rattle.av_model.specs.Making.{LoadsConstant, arrays_made, made_at, made_before, made_now}
use Rattle.av_model.specs.Raising.{MakesThrowable, Unwinds, caught}
use Rattle.av_model.specs.Raising as raising
use Rattle.av_model.specs.Returning.{Returns, to_library, to_initialised, to_caller}
use Rattle.av_model.specs.Spots.{Spot}

-- the same heap
pub keeps_heap : (old new : State) → new.heap ≡ old.heap → KeepsObjects old new
keeps_heap old new e = ([], ap (map origin_of) e ∙ sym (append-nil (map origin_of old.heap)))

pub keeps_then : (a b c : State) → KeepsObjects a b → KeepsObjects b c → KeepsObjects a c
keeps_then a b c first second = (
  first.0 ++ second.0,
  second.1 ∙ ap (λ (l : List (RunType × Label)). l ++ second.0) first.1 ∙ append_assoc (map origin_of a.heap) first.0 second.0,
)

-- more objects
pub keeps_make : (old : State) (objects : List HeapObject) → KeepsObjects old (make old objects)
keeps_make old objects = (map origin_of objects, map-append origin_of old.heap objects)

-- an object of which one part is written
pub keeps_write : (old : State) (number : ℕ) (object : HeapObject) (key : CellKey) (held : Held) → slice_get old.heap number ≡ Some object
    → KeepsObjects old (write_object old number object key held)
keeps_write old number object key held at =
    let written = write_cell object key held in (
      [],
      map-set_same origin_of old.heap number written object (sym (ap origin_of (get_or_from_slice_get old.heap number object object at)))
          ∙ sym (append-nil (map origin_of old.heap)),
    )

-- what becomes known changes no object
known_heap : (state : State) (words : List Held) → (make_all_known state words).heap ≡ state.heap
known_heap state [] = refl
known_heap state (held ∷ rest) = known_heap (make_known state held) rest

module _ (w : List Shape) (methods : List FramedBody) where
  loads_keep : (insn : Insn) (index : ℕ) (old : State) (given : List Held) (new : State) → LoadsConstant w insn index old given new → KeepsObjects old new
  loads_keep insn index old given new (made_before c ifs object loads at type known) = keeps_heap old old refl
  loads_keep insn index old given new (made_now c ifs loads last own) =
      keeps_make old (record { made = Lib c ifs; label = labels.Lib (bases.Class c) 0; cells = [] } ∷ [])

  fields_keep : (insn : Insn) (taken : List Held) (old : State) (given : List Held) (new : State) → UsesField w insn taken old given new → KeepsObjects old new
  fields_keep insn taken old given new (by_getstatic field shape op names) = keeps_heap old old refl
  fields_keep insn taken old given new (by_putstatic field shape value op names takes) = keeps_heap old (write_static old field value) refl
  fields_keep insn taken old given new (by_getfield field shape number object op names takes at) = keeps_heap old old refl
  fields_keep insn taken old given new (by_putfield field shape number object value op names takes at has) = keeps_write old number object (Field field) value at

  items_keep : (insn : Insn) (taken : List Held) (index : ℕ) (old : State) (given : List Held) (new : State) → UsesItem w insn taken index old given new → KeepsObjects old new
  items_keep insn taken index old given new (by_aaload number array item op takes at of) = keeps_heap old old refl
  items_keep insn taken index old given new (by_aastore number array item value op takes at of fits) = keeps_write old number array (Index index) value at
  items_keep insn taken index old given new (by_load number array rest op takes at of) = keeps_heap old old refl
  items_keep insn taken index old given new (by_store number array rest op takes at of) = keeps_write old number array (Index index) Word at

  does_keep : (spot : Spot) (insn : Insn) (taken : List Held) (index : ℕ) (old : State) (given : List Held) (new : State) → Does w spot insn taken index old given new → KeepsObjects old new
  does_keep spot insn taken index old given new (moves_words g zero h) = keeps_heap old old refl
  does_keep spot insn taken index old given new (loads_constant g n h) = loads_keep insn index old given new h
  does_keep spot insn taken index old given new (uses_field g n zero h) = fields_keep insn taken old given new h
  does_keep spot insn taken index old given new (uses_item g n h) = items_keep insn taken index old given new h
  does_keep spot insn taken index old given new (makes_one g n zero h) = rw h.after (keeps_make old (made_at spot 0 h.type ∷ []))
  does_keep spot insn taken index old given new (tests_object g zero h) = keeps_heap old old refl

  enters_keep : (spot : Spot) (insn : Insn) (taken : List Held) (old : State) (callee : Callee) (target : Target) (top : List Activation) (new : State)
      → Enters w methods spot insn taken old callee target top new → KeepsObjects old new
  enters_keep spot insn taken old callee target top new (own_method framed of given) = keeps_heap old old refl
  enters_keep spot insn taken old callee target top new (object_init m number to is takes next) = keeps_heap old (make_fresh old number) refl
  enters_keep spot insn taken old callee target top new (object_finalize m is) = keeps_heap old old refl
  enters_keep spot insn taken old callee target top new (library_method m of no_init no_finalize) = keeps_heap old (make_all_known old taken) (known_heap old taken)
  enters_keep spot insn taken old callee target top new unseen_method = keeps_heap old (make_all_known old taken) (known_heap old taken)

  returns_keep : (m : MethodId) (result : List Held) (old : State) (below after : List Activation) (new : State) → Returns w methods m result old below after new → KeepsObjects old new
  returns_keep m result old below after new (to_library lower is) = keeps_heap old (make_all_known old result) (known_heap old result)
  returns_keep m result old below after new (to_initialised entered) = keeps_heap old old refl
  returns_keep m result old below after new (to_caller lower caller next r plain is resumes) = keeps_heap old old refl

  performs_keep : (below : List Activation) (spot : Spot) (insn : Insn) (taken : List Held) (old : State) (choice : Choice) (out : Outcome)
      → Performs w methods below spot insn taken old choice out → KeepsObjects old out.state
  performs_keep below spot insn taken old choice out (goes_on_in_frame branch index given mid to does goes) = does_keep spot insn taken index old given mid does
  performs_keep below spot insn taken old choice out (makes_nested numbers given mid to makes next) = rw makes.after (keeps_make old (arrays_made spot 0 (makes.outer ∷ makes.inner) numbers (length old.heap)))
  performs_keep below spot insn taken old choice out (calls callee target top mid runs enters) = enters_keep spot insn taken old callee target top mid enters
  performs_keep below spot insn taken old choice out (returns frames mid is h) = returns_keep spot.framed.method taken old below frames mid h
  performs_keep below spot insn taken old choice out (throws number object op takes at is) = keeps_heap old old refl
  performs_keep below spot insn taken old choice out (initialises framed may given) = keeps_heap old old refl

  raise_keeps : (type : RunType) (old new : State) → MakesThrowable w type old new → KeepsObjects old new
  raise_keeps type old new h = rw h.after (keeps_make old (record { made = type; label = h.label; cells = [] } ∷ []))

  unwinds_keep : (below : List Activation) (spot : Spot) (thrown : ℕ) (type : RunType) (old : State) (frames : List Activation) (still : _) (new : State)
      → Unwinds w below spot thrown type old frames still new → KeepsObjects old new
  unwinds_keep below spot thrown type old frames still new (caught place handler first at) = keeps_heap old old refl
  unwinds_keep below spot thrown type old frames still new (raising.to_library lower none is) = keeps_heap old (make_known old (Ref thrown)) refl
  unwinds_keep below spot thrown type old frames still new (raising.to_initialised none entered) = keeps_heap old (make_known old (Ref thrown)) refl
  unwinds_keep below spot thrown type old frames still new (raising.to_caller lower caller none is own plain) = keeps_heap old old refl

  steps_keep : (old : State) (thread : ℕ) (choice : Choice) (out : Outcome) → Steps w methods old thread choice out → KeepsObjects old out.state
  steps_keep old thread choice out (by_insn below spot insn taken chosen left stands is has performs) = performs_keep below spot insn taken old choice out performs
  steps_keep old thread choice out (by_raise below spot insn type mid stands is makes) = raise_keeps type old mid makes
  steps_keep old thread choice out (by_unwind below spot number object frames thrown mid stands at unwinds) = unwinds_keep below spot number object.made old frames thrown mid unwinds
  steps_keep old thread choice out (by_raise_instead below spot number object type mid stands at none entered makes) = raise_keeps type (make_known old (Ref number)) mid makes

  pub step_keeps : (old : State) (thread : ℕ) (choice : Choice) (made : List MethodCall) (new : State) → AppStep w methods old thread choice made new → KeepsObjects old new
  step_keeps old thread choice made new step =
      keeps_then old step.out.state new (steps_keep old thread choice step.out step.steps) (keeps_heap step.out.state new (ap (λ (s : State). s.heap) step.after))
