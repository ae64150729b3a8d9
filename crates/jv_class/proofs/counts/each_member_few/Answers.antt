use Rattle.std.proofs.Common.{subst, refl}
use Rattle.std.proofs.lemmas.List.Elements.{All-more}
use Rattle.jv_class.specs.ClassTexts.{IsFewMember}
use Rattle.jv_class.proofs.AllLemmas.{each_passed}
use Rattle.jv_class.proofs.counts.each_member_few.Goals as goal

pub loop-member-preserved : goal.loop-member-preserved
loop-member-preserved c =
    All-more IsFewMember c.args.members.now c.loop-member.member-index c.member-item.result c.loop-member-test.true c.loop-member.invariant
    (subst IsFewMember c.member-item.is (c.if-not-is_few_member.ensures.0 refl))

pub returns : goal.returns
returns c = each_passed IsFewMember c.args.members.now c.loop-member.member-index c.loop-member-test.false c.loop-member.invariant
