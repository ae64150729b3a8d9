-- The files have no twins exactly where those that are left have none.
use Rattle.std.proofs.Common.{◌↔◌, length}
use Rattle.jv_host.specs.Files.{HasNoTwins}
use Rattle.jv_host.proofs.twins.has_no_twins.Given as goal

abbrev pub invariant-loop-first : goal.invariant-loop-first
invariant-loop-first l = HasNoTwins l.rest ↔ HasNoTwins l.files

abbrev pub decreases-loop-first : goal.decreases-loop-first
decreases-loop-first l = length l.rest
