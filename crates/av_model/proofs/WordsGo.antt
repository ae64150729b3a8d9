-- An instruction that only moves words goes on to each of its places.
use Rattle.std.proofs.Common.{ℕ, IsTrue, List, [], ◌∷◌, ◌++◌, None, refl}
use Rattle.std.specs.List.{flat_map}
use Rattle.jv_types.specs.declared.frames.FramedBody.{FramedBody}
use Rattle.jv_types.specs.declared.instruction.Insn.{Insn}
use Rattle.jv_types.specs.declared.shapes.Shape.{Shape}
use Rattle.jv_insn.specs.Effects.{effect_of}
use Rattle.av_states.specs.declared.event.Choice.TheVariants.{Go}
use Rattle.av_states.specs.declared.held.Held.{Held}
use Rattle.av_states.specs.declared.state.Activation.{Activation}
use Rattle.av_states.specs.declared.state.State.{State}
use Rattle.av_model.specs.AppSteps.{AppStep, Outcome, by_insn, goes_on_in_frame, moves_words, quiet}
use Rattle.av_model.specs.Operands.{HasOperands}
use Rattle.av_model.specs.Spots.{Spot, GoesTo, IsInsnAt, StandsAt, goes_on, set_thread}
use Rattle.av_model.specs.Words.{is_word_insn, plain_words}

pub words_go : (w : List Shape) (methods : List FramedBody) (old : State) (thread : ℕ) (below : List Activation) (spot : Spot) (insn : Insn) (taken : List Held) (branch to : ℕ)
    → StandsAt methods old thread None below spot → IsInsnAt spot insn → HasOperands insn spot.words taken → IsTrue (is_word_insn insn) → GoesTo spot insn branch to
    → (new : State) × AppStep w methods old thread (Go branch 0) [] new
words_go w methods old thread below spot insn taken branch to stands is has words goes =
    let given = flat_map plain_words (effect_of insn).gives in
    let out : Outcome = quiet old (below ++ goes_on spot insn given to ∷ []) in (
      set_thread old thread out.frames out.thrown,
      record {
        out = out;
        steps = by_insn below spot insn taken (Go branch 0) out stands is has
            (goes_on_in_frame branch 0 given old to (moves_words given refl (record { of_words = words; gives = refl })) goes);
        calls_are = refl;
        after = refl;
      },
    )
