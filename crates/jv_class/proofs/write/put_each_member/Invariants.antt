-- What was passed is written, and is short.
use Rattle.std.proofs.Common.{◌≡◌, ◌++◌, take}
use Rattle.std.specs.List.{flat_map, AllByRecursion}
use Rattle.jv_class.specs.ClassTexts.{member_text}
use Rattle.jv_class.specs.Steps.PartWriting.{IsShortMember}
use Rattle.jv_class.proofs.write.put_each_member.Given as goal

abbrev pub invariant-loop-member : goal.invariant-loop-member
invariant-loop-member l =
    AllByRecursion IsShortMember (take l.member-index l.members) × (l.writer ≡ l.fn.writer ++ flat_map member_text (take l.member-index l.members))
