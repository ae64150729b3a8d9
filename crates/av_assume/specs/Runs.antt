-- Runs: lists of events from the first state, each a step of the application or a move of the library, on any threads; and
-- the calls that they make.
use Rattle.std.specs.Prelude.{◌≡◌, ℕ, ◌⊎◌, List, [], ◌∷◌, ◌++◌}
use Rattle.jv_types.specs.declared.frames.FramedBody.{FramedBody}
use Rattle.jv_types.specs.declared.ids.MethodId.{MethodId}
use Rattle.jv_types.specs.declared.shapes.Shape.{Shape}
use Rattle.av_states.specs.declared.event.Event.{Event}
use Rattle.av_states.specs.declared.state.State.{State}
use Rattle.av_model.specs.AppSteps.{AppStep}
use Rattle.av_model.specs.Events.{MethodCall}
use Rattle.av_model.specs.States.{first_state}
use Rattle.av_assume.specs.LibraryMoves.{LibraryMove}

-- from the old state, the event may lead to the new one, and makes these calls
abbrev pub Happens : List Shape → List FramedBody → State → Event → List MethodCall → State → Type 0
Happens w methods old event calls new =
    AppStep w methods old event.thread event.choice calls new ⊎ LibraryMove w methods old event.thread event.choice calls new

-- so may these events, one after the other
abbrev pub Leads : List Shape → List FramedBody → State → List Event → List MethodCall → State → Type 0
Leads w methods old [] calls new = (calls ≡ []) × (new ≡ old)
Leads w methods old (event ∷ events) calls new =
    (mid : State) × (now : List MethodCall) × (later : List MethodCall)
    × Happens w methods old event now mid × Leads w methods mid events later new × (calls ≡ now ++ later)

-- The events are a run of the program: from its first state they lead to this one. What is proved of every run holds for
-- every library that keeps the assumption, and for every order in which its threads take turns.
abbrev pub IsRun : List Shape → List FramedBody → MethodId → ℕ → List Event → List MethodCall → State → Type 0
IsRun w methods main dims events calls end = Leads w methods (first_state main dims) events calls end
