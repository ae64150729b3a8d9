use Rattle.std.proofs.Common.{take, Contains}
use Rattle.av_round.specs.declared.class_items.ClassItems.{ClassItems}
use Rattle.av_reading.specs.Progress.{Goes, IsOneOf}
use Rattle.av_reading.proofs.reading.Reading.read_all.Given as goal

-- the classes so far were asked for
abbrev pub invariant-loop-class : goal.invariant-loop-class
invariant-loop-class g l =
    let S = g.S.ShapeSource in
    (Goes (IsOneOf l.classes) S.stated
    (record { shapes = S.shapes l.fn.source; kept = S.kept l.fn.source; asked = S.asked l.fn.source; answered = S.answered l.fn.source; passed = S.passed l.fn.source; failed = S.failed l.fn.source; faults = S.faults l.fn.source })
    (record { shapes = S.shapes l.source; kept = S.kept l.source; asked = S.asked l.source; answered = S.answered l.source; passed = S.passed l.source; failed = S.failed l.source; faults = S.faults l.source })
    l.fn.self l.self)
    × ((class : ClassItems) → Contains (take l.class-index l.classes) class → Contains l.self.asked class.name)
