use Rattle.std.proofs.Common.{◌-◌, length}
use Rattle.av_reading.proofs.RoundLemmas.{IsUnderway}
use Rattle.av_reading.proofs.rounds.read_whole.Given as goal

abbrev pub invariant-rounds : goal.invariant-rounds
invariant-rounds g l =
    let S = g.S.ShapeSource in
    IsUnderway (record { shapes = l.app; maps = l.maps; bodies = l.bodies }) S.stated
    (record { shapes = S.shapes l.fn.source; kept = S.kept l.fn.source; asked = S.asked l.fn.source; answered = S.answered l.fn.source; passed = S.passed l.fn.source; failed = S.failed l.fn.source; faults = S.faults l.fn.source })
    (record { shapes = S.shapes l.source; kept = S.kept l.source; asked = S.asked l.source; answered = S.answered l.source; passed = S.passed l.source; failed = S.failed l.source; faults = S.faults l.source })
    l.reading

abbrev pub decreases-rounds : goal.decreases-rounds
decreases-rounds g l = 8001 - length l.reading.asked
