use Rattle.jv_stated.proofs.Classes.{decided}
use Rattle.jv_stated.proofs.class_texts_are_decided.Goals as goal

pub returns : goal.returns
returns _ = decided
