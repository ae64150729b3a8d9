use Rattle.av_assume.proofs.Beginning.{may_begin}
use Rattle.av_assume.proofs.laws.threads_may_begin.Goals as goal

pub returns : goal.returns
returns c = may_begin
