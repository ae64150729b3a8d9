-- The first state is sound.
use Rattle.std.proofs.Common.{ℕ, ◌<◌, List, [], ◌∷◌, None, refl, arith}
use Rattle.std.specs.List.{All}
use Rattle.std.proofs.lemmas.List.Elements.{All-cons}
use Rattle.jv_types.specs.declared.frames.FramedBody.{FramedBody}
use Rattle.jv_types.specs.declared.ids.MethodId.{MethodId}
use Rattle.jv_types.specs.declared.shapes.Shape.{Shape}
use Rattle.av_conditions.specs.Conditions.{IsStart}
use Rattle.av_states.specs.declared.state.Activation.TheVariants.{Library}
use Rattle.av_states.specs.declared.state.ThreadState.{ThreadState}
use Rattle.av_model.specs.States.{IsSoundFrame, IsSoundState, IsSoundThread, first_state}

none_of : {X : Type 0} (P : X → Type 0) → All P []
none_of P k d lt = absurd (omega arith)

pub first_sound : (w : List Shape) (methods : List FramedBody) (main : MethodId) (dims : ℕ) → IsStart w methods main → 0 < dims
    → IsSoundState w methods (first_state main dims)
first_sound w methods main dims start some =
    let state = first_state main dims in
    let thread : ThreadState = record { frames = Library ∷ []; thrown = None } in
    let sound : IsSoundThread w state thread = record { frames = All-cons (IsSoundFrame w state) Library [] tt (none_of (IsSoundFrame w state)); thrown = tt } in
    record {
      main = start;
      dims = some;
      heap = λ k d lt. absurd (omega arith);
      statics_rise = refl;
      statics = λ k d lt. absurd (omega arith);
      known = record { rise = λ k lt. absurd (omega arith); made = λ k d lt. absurd (omega arith) };
      fresh = record { rise = λ k lt. absurd (omega arith); made = λ k d lt. absurd (omega arith) };
      threads = All-cons (IsSoundThread w state) thread [] sound (none_of (IsSoundThread w state));
    }
