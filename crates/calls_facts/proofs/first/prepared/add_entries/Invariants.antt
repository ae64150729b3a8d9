use Rattle.std.proofs.Common.{◌≡◌, ℕ, ◌<◌}
use Rattle.jv_types.specs.declared.fact.Fact.{Fact}
use Rattle.calls_facts.specs.First.Closing.{AddsFacts}
use Rattle.calls_facts.specs.First.Prepared.{MainEdge}
use Rattle.calls_facts.proofs.Entries.{EdgeBelow}
use Rattle.calls_facts.proofs.first.prepared.add_entries.Given as goal

-- main's edge was added, if main is one of the first methods
abbrev pub invariant-loop-place : goal.invariant-loop-place
invariant-loop-place l = AddsFacts (EdgeBelow l.class l.place) l.initial.found l.found
