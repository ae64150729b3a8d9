use Rattle.std.proofs.Common.{take}
use Rattle.av_named.specs.Appending.{Appends, OfEach}
use Rattle.av_named.specs.Named.{TextNames}
use Rattle.av_named.proofs.texts.names_of_texts.Given as goal

abbrev pub invariant-loop-text : goal.invariant-loop-text
invariant-loop-text l = Appends (OfEach TextNames (take l.text-index l.texts)) l.initial.out.items l.out.items
