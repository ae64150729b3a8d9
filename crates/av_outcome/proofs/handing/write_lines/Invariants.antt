use Rattle.std.proofs.Common.{◌≡◌, length}
use Rattle.av_outcome.specs.Handing.{text_of_lines}
use Rattle.av_outcome.proofs.Sinks.{IsPartTaken}
use Rattle.av_outcome.proofs.handing.write_lines.Given as goal

-- the text of the lines but for those that are left was taken
abbrev pub invariant-loop-line : goal.invariant-loop-line
invariant-loop-line g l =
    let O = g.O.Sink in
    (IsPartTaken (record { taken = O.taken l.fn.out; faults = O.faults l.fn.out; lacks = O.lacks l.fn.out })
    (record { taken = O.taken l.out; faults = O.faults l.out; lacks = O.lacks l.out }) (text_of_lines l.fn.lines.keys) (text_of_lines l.left.keys))
    × (O.blanks l.out ≡ O.blanks l.fn.out)

abbrev pub decreases-loop-line : goal.decreases-loop-line
decreases-loop-line g l = length l.left.keys
