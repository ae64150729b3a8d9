use Rattle.av_stops.proofs.analysable_programs_are_checkable.Goals as goal

pub returns : goal.returns
returns _ = λ program p. p.checkable
