use Rattle.jv_resolve.proofs.Tests.{none_weaker}
use Rattle.av_rules.specs.declared.flat_type.FlatType.{FlatType}
use Rattle.av_rules.specs.Labels.{IsInner, Makes}
use Rattle.av_rules.proofs.MakingLemmas.{multi_none}
use Rattle.av_rules.proofs.making.made_by.Goals as goal

pub returns-then-insn-2-clause-none : goal.returns-then-insn-2-clause-none
returns-then-insn-2-clause-none c =
    none_weaker c.inner_made.result ((made : FlatType) → IsInner c.args.world.now c.in-Multi.t c.args.depth made → ⊥)
    ((made : FlatType) → Makes c.args.world.now c.args.insn.now c.args.depth made → ⊥)
    (λ none made. multi_none c.args.world.now c.args.insn.now c.in-Multi.t c.in-Multi.count c.args.depth made c.in-Multi.is none) c.inner_made.ensures.none
