use Rattle.std.proofs.Common.{◌-◌, length}
use Rattle.jv_world.proofs.Searching.{IsSearch}
use Rattle.jv_world.proofs.closure.Search.find.Given as goal

abbrev pub invariant-loop-i : goal.invariant-loop-i
invariant-loop-i l = IsSearch l.links l.fn.class.number l.self.marks.items l.self.found.items l.i

-- no more classes are found than there are marks
abbrev pub decreases-loop-i : goal.decreases-loop-i
decreases-loop-i l = length l.self.marks.items - l.i
