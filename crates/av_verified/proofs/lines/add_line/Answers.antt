use Rattle.calls_lines.proofs.Adding.{AddsLines-insert}
use Rattle.av_verified.proofs.lines.add_line.Goals as goal

pub returns : goal.returns
returns c = AddsLines-insert c.args.lines.now c.insert.new.self c.args.line c.in_ok-insert.ensures.ordered c.in_ok-insert.ensures.updates
