use Rattle.std.specs.Prelude.{Bool}
use Rattle.jv_fix.specs.Facts.{IsClosed, One, Two}
use Rattle.jv_types.specs.declared.fact.Fact.{Fact}
use Rattle.av_rules.specs.Closing.{Closed, Has}
use Rattle.av_rules.specs.Forcing.{Forces}
use Rattle.av_rules.specs.Program.{Program}
use Rattle.av_rules.proofs.laws.closed_sets_meet.Goals as goal

meets : (p : Program) (one other : Fact → Bool) → Closed p (Has one) → Closed p (Has other) → IsClosed (Forces p) (λ fact. Has one fact × Has other fact)
meets p one other a b (One premise) fact h f = (a.closed (One premise) fact h.0 f, b.closed (One premise) fact h.1 f)
meets p one other a b (Two first second) fact h f =
    (a.closed (Two first second) fact (h.0.0, h.1.0) f, b.closed (Two first second) fact (h.0.1, h.1.1) f)

pub returns : goal.returns
returns c = λ p one other a b. record {
  seeded = λ fact seed. (a.seeded fact seed, b.seeded fact seed);
  closed = meets p one other a b;
}
