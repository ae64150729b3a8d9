use Rattle.std.proofs.Common.{◌≡◌, false, sym, subst, arith, rules}
use Rattle.std.proofs.lemmas.Grind.{common_steps}
use Rattle.av_states.specs.declared.state.State.{State}
use Rattle.av_model.specs.States.{IsSoundState, first_state}
use Rattle.av_model.proofs.FirstState.{first_sound}
use Rattle.av_model.proofs.first.start.Goals as goal

pub returns-clause-sound : goal.returns-clause-sound
returns-clause-sound c =
    let P : State → Type 0 = λ state. IsSoundState c.args.world.now c.args.methods.now state in
    let made : State = record {
      main = c.args.main;
      dims = c.args.dims;
      entered = false;
      heap = c.new.result;
      statics = c.new-2.result;
      known = c.new-3.result;
      fresh = c.new-4.result;
      threads = c.from_vec-2.result;
    } in
    let first : made ≡ first_state c.args.main c.args.dims = first_of (search rules, grind (arith, common_steps)) in
    subst P (sym first) (first_sound c.args.world.now c.args.methods.now c.args.main c.args.dims c.requires.main c.requires.dims)
