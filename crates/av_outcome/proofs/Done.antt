-- Only one outcome has the status Done.
use Rattle.std.proofs.Common.{◌≡◌, refl}
use Rattle.av_outcome.specs.declared.outcome.Outcome.{Outcome}
use Rattle.av_outcome.specs.declared.outcome.Outcome.TheVariants as outcome
use Rattle.av_outcome.specs.declared.status.Status.TheVariants as status
use Rattle.av_outcome.specs.Outcomes.{outcome_status}

pub done_alone : (o : Outcome) → outcome_status o ≡ status.Done → o ≡ outcome.Done
done_alone outcome.Done e = refl
done_alone (outcome.Refused refusal) e = absurd cc
done_alone outcome.Usage e = absurd cc
done_alone (outcome.ReadFault name) e = absurd cc
done_alone outcome.WriteFault e = absurd cc
done_alone (outcome.Limit quantity number) e = absurd cc
done_alone outcome.Memory e = absurd cc
