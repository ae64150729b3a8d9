use Rattle.jv_class.specs.declared.class_file.Member.{Member}
use Rattle.jv_verify.specs.Verified.{IsNamedSo}
use Rattle.jv_verify.proofs.Each.{passed}
use Rattle.jv_verify.proofs.codes.member_named.Goals as goal

pub returns-clause-none : goal.returns-clause-none
returns-clause-none c =
    let Other = λ (member : Member). IsNamedSo c.args.pool.now c.args.name.now c.args.descriptor.now member → ⊥ in
    λ member among named. passed Other c.args.members.now c.loop-member.member-index c.loop-member-test.false c.loop-member.invariant member among named
