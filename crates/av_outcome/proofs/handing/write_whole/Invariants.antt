use Rattle.std.proofs.Common.{◌≡◌, length}
use Rattle.av_outcome.proofs.Sinks.{IsUnderway}
use Rattle.av_outcome.proofs.handing.write_whole.Given as goal

abbrev pub invariant-loop-rest : goal.invariant-loop-rest
invariant-loop-rest g l =
    let O = g.O.Sink in
    (IsUnderway (record { taken = O.taken l.fn.out; faults = O.faults l.fn.out; lacks = O.lacks l.fn.out })
    (record { taken = O.taken l.out; faults = O.faults l.out; lacks = O.lacks l.out }) l.bytes l.rest)
    × (O.blanks l.out ≡ O.blanks l.fn.out)

abbrev pub decreases-loop-rest : goal.decreases-loop-rest
decreases-loop-rest g l = length l.rest
