use Rattle.std.proofs.Common.{[], take, Contains}
use Rattle.calls_lines.specs.First.Lines.{IsLine}
use Rattle.calls_lines.specs.First.Adding.{AddsLines}
use Rattle.calls_lines.proofs.first.reporting.fact_lines.Given as goal

-- the lines of the facts so far are added
abbrev pub invariant-loop-fact : goal.invariant-loop-fact
invariant-loop-fact l = AddsLines (IsLine l.class (Contains (take l.fact-index l.facts))) [] l.lines.keys
