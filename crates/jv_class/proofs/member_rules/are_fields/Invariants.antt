-- Those so far keep the rules.
use Rattle.std.proofs.Common.{take, All}
use Rattle.jv_class.specs.ClassTexts.{IsField}
use Rattle.jv_class.proofs.member_rules.are_fields.Given as goal

abbrev pub invariant-loop-member : goal.invariant-loop-member
invariant-loop-member l = All (IsField l.pool) (take l.member-index l.members)
