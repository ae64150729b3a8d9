-- Those so far keep the rules.
use Rattle.std.proofs.Common.{take, All}
use Rattle.jv_class.specs.ClassTexts.{IsMethodMember}
use Rattle.jv_class.proofs.member_rules.are_methods.Given as goal

abbrev pub invariant-loop-member : goal.invariant-loop-member
invariant-loop-member l = All (IsMethodMember l.pool) (take l.member-index l.members)
