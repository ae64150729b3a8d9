use Rattle.av_assume.proofs.Staying.{leads_keeps, move_keeps}
use Rattle.av_assume.proofs.laws.runs_keep_objects.Goals as goal

pub returns : goal.returns
returns c = record { moves = move_keeps; runs = leads_keeps }
