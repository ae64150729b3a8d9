use Rattle.calls_lines.proofs.Adding.{AddsLines-more, AreLines-all}
use Rattle.calls_lines.proofs.first.reporting.fact_lines.Goals as goal

pub loop-fact-preserved : goal.loop-fact-preserved
loop-fact-preserved c = AddsLines-more c.args.class.now c.args.facts.now c.loop-fact.fact-index _ _ _ _ c.loop-fact-test.true c.loop-fact.invariant c.in_ok-add_fact.ensures

pub returns : goal.returns
returns c = AreLines-all c.args.class.now c.args.facts.now c.loop-fact.fact-index c.loop-fact.lines.keys c.loop-fact-test.false c.loop-fact.invariant
