use Rattle.std.proofs.Common.{take}
use Rattle.av_named.specs.Appending.{Appends, OfEach}
use Rattle.av_named.specs.Named.{HandlerNames}
use Rattle.av_named.proofs.codes.names_of_handlers.Given as goal

abbrev pub invariant-loop-handler : goal.invariant-loop-handler
invariant-loop-handler l = Appends (OfEach HandlerNames (take l.handler-index l.handlers)) l.initial.out.items l.out.items
