-- Objects stay, and keep their types and labels: by each move of the library, and over runs.
use Rattle.std.proofs.Common.{ℕ, List, [], ◌∷◌, ◌++◌, None, refl, ap, ⊎_elim}
use Rattle.jv_types.specs.declared.frames.FramedBody.{FramedBody}
use Rattle.jv_types.specs.declared.shapes.Shape.{Shape}
use Rattle.av_states.specs.declared.event.Choice.{Choice}
use Rattle.av_states.specs.declared.event.Event.{Event}
use Rattle.av_states.specs.declared.state.Activation.{Activation}
use Rattle.av_states.specs.declared.state.Activation.TheVariants.{Library}
use Rattle.av_states.specs.declared.state.CellKey.TheVariants.{Field, Index}
use Rattle.av_states.specs.declared.state.State.{State}
use Rattle.av_model.specs.AppSteps.{Outcome}
use Rattle.av_model.specs.Events.{MethodCall}
use Rattle.av_model.specs.Holding.{field_of, item_of, make_known, static_of, write_static}
use Rattle.av_model.specs.Keeping.{KeepsObjects}
use Rattle.av_model.proofs.Staying.{keeps_heap, keeps_make, keeps_then, keeps_write, step_keeps}
use Rattle.av_assume.specs.LibraryMoves.{EntersAtStart, enters_first, enters_main, MakesObject, makes_own, makes_copy, UsesLibraryField, sees_static, sees_field, sets_static, sets_field, UsesKnownArray, looks_at, puts, Leaves, calls_method, returns_value, throws_known, LibraryMove, begins, starts, makes, uses_field, uses_array, leaves}
use Rattle.av_assume.specs.Runs.{Happens, Leads}

module _ (w : List Shape) (methods : List FramedBody) where
  start_keeps : (old : State) (below : List Activation) (choice : Choice) (out : Outcome) → EntersAtStart w methods old below choice out → KeepsObjects old out.state
  start_keeps old below choice out (enters_first framed given first) = keeps_heap old old refl
  start_keeps old below choice out (enters_main framed type label given main strings labelled) = keeps_make old (record { made = type; label = label; cells = [] } ∷ [])

  made_keeps : (old : State) (choice : Choice) (new : State) → MakesObject w old choice new → KeepsObjects old new
  made_keeps old choice new (makes_own type label is labelled) = keeps_make old (record { made = type; label = label; cells = [] } ∷ [])
  made_keeps old choice new (makes_copy number original indices cells known holds) = keeps_make old (record original { cells = cells } ∷ [])

  field_keeps : (old : State) (choice : Choice) (new : State) → UsesLibraryField w old choice new → KeepsObjects old new
  field_keeps old choice new (sees_static field shape type is static) = keeps_heap old (make_known old (static_of old field shape.desc)) refl
  field_keeps old choice new (sees_field field shape type number object is instance known has) = keeps_heap old (make_known old (field_of object field shape.desc)) refl
  field_keeps old choice new (sets_static field shape type value is static fits) = keeps_heap old (write_static old field value) refl
  field_keeps old choice new (sets_field field shape type number object value is instance known has fits) = keeps_write old number object (Field field) value known.1

  array_keeps : (old : State) (choice : Choice) (new : State) → UsesKnownArray w old choice new → KeepsObjects old new
  array_keeps old choice new (looks_at number index array item known) = keeps_heap old (make_known old (item_of array index)) refl
  array_keeps old choice new (puts number index array item value known fits) = keeps_write old number array (Index index) value known.known.1

  left_keeps : (old : State) (below : List Activation) (choice : Choice) (out : Outcome) → Leaves w methods old below choice out → KeepsObjects old out.state
  left_keeps old below choice out (calls_method m shape number args framed runs given fits) = keeps_heap old old refl
  left_keeps old below choice out (returns_value lower caller after r value is result resumes) = keeps_heap old old refl
  left_keeps old below choice out (throws_known lower caller number object is own known throwable) = keeps_heap old old refl

  pub move_keeps : (old : State) (thread : ℕ) (choice : Choice) (calls : List MethodCall) (new : State) → LibraryMove w methods old thread choice calls new → KeepsObjects old new
  move_keeps old thread choice calls new (begins last) =
      keeps_heap old (record old { threads = old.threads ++ record { frames = Library ∷ []; thrown = None } ∷ [] }) refl
  move_keeps old thread choice calls new (starts below chosen out first waits runs enters) = start_keeps old below choice out enters
  move_keeps old thread choice calls new (makes below chosen after runs h) = made_keeps old choice new h
  move_keeps old thread choice calls new (uses_field below chosen after runs h) = field_keeps old choice new h
  move_keeps old thread choice calls new (uses_array below chosen after runs h) = array_keeps old choice new h
  move_keeps old thread choice calls new (leaves below chosen out runs h) = left_keeps old below choice out h

  happens_keeps : (old : State) (event : Event) (calls : List MethodCall) (new : State) → Happens w methods old event calls new → KeepsObjects old new
  happens_keeps old event calls new h =
      ⊎_elim (λ step. step_keeps w methods old event.thread event.choice calls new step) (λ move. move_keeps old event.thread event.choice calls new move) h

  pub leads_keeps : (old : State) (events : List Event) (calls : List MethodCall) (new : State) → Leads w methods old events calls new → KeepsObjects old new
  leads_keeps old [] calls new h = keeps_heap old new (ap (λ (s : State). s.heap) h.1)
  leads_keeps old (event ∷ events) calls new h =
      keeps_then old h.0 new (happens_keeps old event h.1 h.0 h.3) (leads_keeps h.0 events h.2 new h.4)
