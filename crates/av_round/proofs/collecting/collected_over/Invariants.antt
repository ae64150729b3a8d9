use Rattle.av_round.proofs.collecting.collected_over.Given as goal

abbrev pub ghosts-closed : goal.ghosts-closed
ghosts-closed a = record { name = a.blank.name; parts = a.blank.parts }
