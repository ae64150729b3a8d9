use Rattle.std.proofs.Common.{take}
use Rattle.av_named.specs.Appending.{Appends, OfEach}
use Rattle.av_named.specs.Named.{MethodNames}
use Rattle.av_named.proofs.members.names_of_methods.Given as goal

abbrev pub invariant-loop-method : goal.invariant-loop-method
invariant-loop-method l = Appends (OfEach MethodNames (take l.method-index l.methods)) l.initial.out.items l.out.items
