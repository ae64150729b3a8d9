-- A throwable of the library's has a label, so that it may always be thrown.
use Rattle.std.proofs.Common.{ℕ, List, [], ◌∷◌, ◌++◌, None, Some, length, refl, inl, subst, sym, arith, ⊎_elim}
use Rattle.jv_types.specs.declared.frames.FramedBody.{FramedBody}
use Rattle.jv_types.specs.declared.ids.ClassId.{ClassId}
use Rattle.jv_types.specs.declared.instruction.Insn.{Insn}
use Rattle.jv_types.specs.declared.label.Label.TheVariants as labels
use Rattle.jv_types.specs.declared.label.LibBase.TheVariants as bases
use Rattle.jv_types.specs.declared.shapes.Shape.{Shape}
use Rattle.av_states.specs.declared.event.Choice.TheVariants.{Raise}
use Rattle.av_states.specs.declared.run_type.RunType.{RunType, Lib}
use Rattle.av_states.specs.declared.state.Activation.{Activation}
use Rattle.av_states.specs.declared.state.State.{State}
use Rattle.av_model.specs.AppSteps.{AppStep, by_raise, Outcome}
use Rattle.av_model.specs.LibraryTypes.{IsLibraryClass, IsRaised, IsUnseenClass, LabelOf, NeverBelowApplication}
use Rattle.av_model.specs.Raising.{MakesThrowable, add_known}
use Rattle.av_model.specs.RunTypes.{IsOfClass}
use Rattle.av_model.specs.Spots.{Spot, IsInsnAt, StandsAt, frame_of, set_thread}

-- an object of a class that nobody sees has the label of its lowest class
unseen_label : (w : List Shape) (most : ℕ) (low : ClassId) (ifs : List ClassId) → LabelOf w most (Lib low ifs) (labels.Lib (bases.Class low) 0)
unseen_label w most low ifs = inl (omega arith, (bases.Class low, refl, refl))

pub may_raise : (w : List Shape) (methods : List FramedBody) (old : State) (thread : ℕ) (below : List Activation) (spot : Spot) (insn : Insn) (type : RunType)
    → StandsAt methods old thread None below spot → IsInsnAt spot insn → IsRaised w type
    → (new : State) × AppStep w methods old thread (Raise type) [] new
may_raise w methods old thread below spot insn type stands is raised =
    let low = raised.0 in
    let label = labels.Lib (bases.Class low) 0 in
    let P : RunType → Type 0 = λ t. LabelOf w old.dims t label in
    let mid = add_known old type label in
    let makes : MakesThrowable w type old mid = record {
      raised = raised;
      label = label;
      labelled = subst P (sym raised.2) (unseen_label w old.dims low raised.1);
      after = refl;
    } in
    let out : Outcome = record { calls = []; state = mid; frames = below ++ frame_of spot ∷ []; thrown = Some (length old.heap) } in (
      set_thread mid thread out.frames out.thrown,
      record {
        out = out;
        steps = by_raise below spot insn type mid stands is makes;
        calls_are = refl;
        after = refl;
      },
    )

pub stays_above : (w : List Shape) (low : ClassId) (ifs : List ClassId) (d : ClassId) → NeverBelowApplication w → IsUnseenClass w low ifs
    → IsOfClass w (Lib low ifs) d → IsLibraryClass w d
stays_above w low ifs d never unseen is =
    ⊎_elim (λ sub. never low d unseen.lowest sub) (λ has. (unseen.interfaces d has).0) is
