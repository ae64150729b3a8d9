use Rattle.std.proofs.Common.{take, Contains}
use Rattle.av_named.specs.Appending.{Appends}
use Rattle.av_named.proofs.members.push_copies.Given as goal

abbrev pub invariant-loop-name : goal.invariant-loop-name
invariant-loop-name l = Appends (Contains (take l.name-index l.names)) l.initial.out.items l.out.items
