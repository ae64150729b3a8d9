use Rattle.std.proofs.Common.{◌≡◌, take, true}
use Rattle.jv_desc.specs.Steps.Reading.{no_semicolon}
use Rattle.jv_desc.proofs.reading.before_semicolon.Given as goal

abbrev pub invariant-loop-i : goal.invariant-loop-i
invariant-loop-i l = no_semicolon (take l.i l.bytes) ≡ true
