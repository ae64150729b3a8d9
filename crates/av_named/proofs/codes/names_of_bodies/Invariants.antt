use Rattle.std.proofs.Common.{take}
use Rattle.av_named.specs.Appending.{Appends, OfEach}
use Rattle.av_named.specs.Named.{BodyNames}
use Rattle.av_named.proofs.codes.names_of_bodies.Given as goal

abbrev pub invariant-loop-method : goal.invariant-loop-method
invariant-loop-method l = Appends (OfEach BodyNames (take l.method-index l.bodies)) l.initial.out.items l.out.items
