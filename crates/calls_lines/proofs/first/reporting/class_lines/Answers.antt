use Rattle.std.proofs.Common.{Contains}
use Rattle.std.proofs.lemmas.Result.{IfOk-weaker}
use Rattle.calls_lines.specs.First.Lines.{AreLines}
use Rattle.calls_lines.specs.First.Covered.{AreClassLines}
use Rattle.calls_lines.proofs.Runs.{AreClassLines-least}
use Rattle.calls_lines.proofs.first.reporting.class_lines.Goals as goal

pub returns : goal.returns
returns c =
    let class = c.args.class.now in
    let facts = c.in_ok-facts.facts.items in
    IfOk-weaker c.fact_lines.result (λ lines. AreLines class (Contains facts) lines.keys) (λ lines. AreClassLines class lines.keys)
    (λ lines. AreClassLines-least class facts lines.keys c.requires.safe c.in_ok-facts.ensures)
    (rw c.as_slice.ensures.value at c.fact_lines.ensures)
