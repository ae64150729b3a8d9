use Rattle.jv_typing_laws.proofs.FormedFrames.{initial_formed, maps_formed}
use Rattle.jv_typing_laws.proofs.KindSafety.{table_formed}
use Rattle.jv_typing_laws.proofs.formed.frames_are_formed.Goals as goal

pub returns-clause-initial : goal.returns-clause-initial
returns-clause-initial c = initial_formed

pub returns-clause-maps : goal.returns-clause-maps
returns-clause-maps c = maps_formed

pub returns-clause-table : goal.returns-clause-table
returns-clause-table c = λ w framed pc frame safe at. table_formed w framed pc frame safe.0 safe.1 safe.2 at
