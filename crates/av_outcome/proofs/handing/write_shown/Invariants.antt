use Rattle.std.proofs.Common.{◌≡◌, take}
use Rattle.jv_bytes.specs.Shown.{shown_text}
use Rattle.av_outcome.proofs.Sinks.{IsTaken}
use Rattle.av_outcome.proofs.handing.write_shown.Given as goal

-- the shown form of the bytes so far was taken
abbrev pub invariant-loop-byte : goal.invariant-loop-byte
invariant-loop-byte g l =
    let O = g.O.Sink in
    (IsTaken (record { taken = O.taken l.fn.out; faults = O.faults l.fn.out; lacks = O.lacks l.fn.out })
    (record { taken = O.taken l.out; faults = O.faults l.out; lacks = O.lacks l.out }) (shown_text (take l.byte-index l.text)))
    × (O.blanks l.out ≡ O.blanks l.fn.out)
