use Rattle.std.proofs.Common.{◌≡◌, take}
use Rattle.av_outcome.specs.Pieces.{text_of_pieces}
use Rattle.av_outcome.proofs.Sinks.{IsTaken}
use Rattle.av_outcome.proofs.pieces.write_pieces.Given as goal

-- the text of the pieces so far was taken
abbrev pub invariant-loop-piece : goal.invariant-loop-piece
invariant-loop-piece g l =
    let O = g.O.Sink in
    (IsTaken (record { taken = O.taken l.fn.out; faults = O.faults l.fn.out; lacks = O.lacks l.fn.out })
    (record { taken = O.taken l.out; faults = O.faults l.out; lacks = O.lacks l.out }) (text_of_pieces (take l.piece-index l.pieces)))
    × (O.blanks l.out ≡ O.blanks l.fn.out)
