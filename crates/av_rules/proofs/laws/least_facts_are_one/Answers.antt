-- The facts of a list as a set that a test decides.
use Rattle.std.proofs.Common.{List, Contains}
use Rattle.jv_fix.specs.Facts.{IsClosed, One, Two}
use Rattle.jv_types.specs.declared.fact.Fact.{Fact}
use Rattle.av_rules.specs.Closing.{Closed, Has}
use Rattle.av_rules.specs.Forcing.{Forces}
use Rattle.av_rules.specs.Program.{Program}
use Rattle.av_rules.proofs.FactSets.{is_listed, listed}
use Rattle.av_rules.proofs.laws.least_facts_are_one.Goals as goal

closed_by : (p : Program) (facts : List Fact) → Closed p (Contains facts) → IsClosed (Forces p) (Has (is_listed facts))
closed_by p facts closed (One premise) fact h f = (listed facts fact).1 (closed.closed (One premise) fact ((listed facts premise).0 h) f)
closed_by p facts closed (Two first second) fact h f =
    (listed facts fact).1 (closed.closed (Two first second) fact ((listed facts first).0 h.0, (listed facts second).0 h.1) f)

pub returns : goal.returns
returns c = λ p facts others least other fact held.
    let closed : Closed p (Has (is_listed others)) = record {
      seeded = λ each seed. (listed others each).1 (other.closed.seeded each seed);
      closed = closed_by p others other.closed;
    } in
    (listed others fact).0 (least.inside (is_listed others) closed fact held)
