use Rattle.std.proofs.Common.{take, All}
use Rattle.jv_class.specs.declared.class_file.Member.{Member}
use Rattle.jv_verify.specs.Verified.{IsNamedSo}
use Rattle.jv_verify.proofs.codes.member_named.Given as goal

abbrev pub invariant-loop-member : goal.invariant-loop-member
invariant-loop-member l = All (λ (member : Member). IsNamedSo l.pool l.name l.descriptor member → ⊥) (take l.member-index l.members)
