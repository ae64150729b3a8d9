use Rattle.std.proofs.Common.{take}
use Rattle.av_named.specs.Appending.{Appends, OfEach}
use Rattle.av_collected.specs.Types.{HasClass}
use Rattle.av_named.proofs.members.names_of_descs.Given as goal

abbrev pub invariant-loop-desc : goal.invariant-loop-desc
invariant-loop-desc l = Appends (OfEach HasClass (take l.desc-index l.descs)) l.initial.out.items l.out.items
