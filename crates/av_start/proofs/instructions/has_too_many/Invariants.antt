use Rattle.std.proofs.Common.{◌≡◌, ◌-◌, ◌^◌, length, min, take}
use Rattle.av_stops.specs.FirstStops.{insns_in}
use Rattle.av_start.proofs.instructions.has_too_many.Given as goal

abbrev pub invariant-loop-framed : goal.invariant-loop-framed
invariant-loop-framed l = l.count ≡ min (insns_in (take l.framed-index l.methods)) (2 ^ 64 - 1)
