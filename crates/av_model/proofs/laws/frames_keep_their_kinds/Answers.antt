use Rattle.av_model.proofs.GoingOn.{goes_on_kinds}
use Rattle.av_model.proofs.KeptKinds.{called_kinds, caught_kinds, entered_kinds}
use Rattle.av_model.proofs.laws.frames_keep_their_kinds.Goals as goal

pub returns : goal.returns
returns c = record { goes_on = goes_on_kinds; entered = entered_kinds; called = called_kinds; caught = caught_kinds }
