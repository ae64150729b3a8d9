use Rattle.std.proofs.Common.{◌∙◌, arith}
use Rattle.av_outcome.proofs.Sinks.{goes_on, blanks_kept}
use Rattle.av_outcome.proofs.handing.write_whole.Goals as goal

pub loop-rest-preserved : goal.loop-rest-preserved
loop-rest-preserved g c = (
  rw c.split_at.ensures.back (goes_on _ _ _ c.args.bytes.now c.loop-rest.rest.now c.in_ok-count.count c.loop-rest.invariant.0 c.in_ok-count.ensures.takes
      (record { faults = c.in_ok-count.ensures.faults_kept; lacks = c.in_ok-count.ensures.lacks_kept })),
  c.in_ok-count.ensures.blanks_counted ∙ blanks_kept c.loop-rest.rest.now _ (search (arith, c.loop-rest-test.true, c.is_empty.ensures)) ∙ c.loop-rest.invariant.1,
)
