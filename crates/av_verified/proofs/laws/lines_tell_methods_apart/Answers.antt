use Rattle.av_verified.proofs.Showing.{one_line}
use Rattle.av_verified.proofs.laws.lines_tell_methods_apart.Goals as goal

pub returns : goal.returns
returns c = one_line
