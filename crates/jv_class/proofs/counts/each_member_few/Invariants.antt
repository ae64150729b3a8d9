-- Those so far fit.
use Rattle.std.proofs.Common.{take, All}
use Rattle.jv_class.specs.ClassTexts.{IsFewMember}
use Rattle.jv_class.proofs.counts.each_member_few.Given as goal

abbrev pub invariant-loop-member : goal.invariant-loop-member
invariant-loop-member l = All IsFewMember (take l.member-index l.members)
