use Rattle.calls_lines.proofs.Runs.{lines_cover}
use Rattle.calls_lines.proofs.first.lines_cover_runs.Goals as goal

pub returns : goal.returns
returns c = λ class set lines safe closed are. lines_cover class set lines are safe closed
