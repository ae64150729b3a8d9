use Rattle.std.proofs.Common.{Some}
use Rattle.std.proofs.lemmas.Result.{on_ok_weaker}
use Rattle.calls_lines.specs.First.Lines.{HasLine}
use Rattle.calls_lines.specs.First.Adding.{IsTextOf}
use Rattle.calls_lines.proofs.Adding.{AddsLines-text}
use Rattle.calls_lines.proofs.first.reporting.add_fact.Goals as goal

pub returns : goal.returns
returns c =
    let has_line : IsTextOf (HasLine c.args.class.now c.args.fact) (Some c.in-Some.line) = rw c.in-Some.is at c.in_ok-line.ensures in
    on_ok_weaker c.add_line.result (AddsLines-text (HasLine c.args.class.now c.args.fact) c.in-Some.line c.args.lines.now.keys c.add_line.new.lines.keys has_line) c.add_line.ensures
