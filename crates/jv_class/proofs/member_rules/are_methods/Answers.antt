use Rattle.std.proofs.Common.{subst, refl}
use Rattle.std.proofs.lemmas.List.Elements.{All-more}
use Rattle.jv_class.specs.ClassTexts.{IsMethodMember}
use Rattle.jv_class.proofs.AllLemmas.{each_passed}
use Rattle.jv_class.proofs.member_rules.are_methods.Goals as goal

pub loop-member-preserved : goal.loop-member-preserved
loop-member-preserved c =
    All-more (IsMethodMember c.args.pool.now) c.args.members.now c.loop-member.member-index c.member-item.result c.loop-member-test.true c.loop-member.invariant
    (subst (IsMethodMember c.args.pool.now) c.member-item.is (c.if-not-is_method.ensures.0 refl))

pub returns : goal.returns
returns c = each_passed (IsMethodMember c.args.pool.now) c.args.members.now c.loop-member.member-index c.loop-member-test.false c.loop-member.invariant
