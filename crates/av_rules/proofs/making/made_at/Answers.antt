use Rattle.std.proofs.Common.{sym}
use Rattle.jv_resolve.proofs.Tests.{none_weaker, some_weaker}
use Rattle.av_rules.specs.declared.flat_type.FlatType.{FlatType}
use Rattle.av_rules.specs.Labels.{Makes}
use Rattle.av_rules.specs.Steps.Making.{MakesAt}
use Rattle.av_rules.proofs.MakingLemmas.{nothing_stands, only_there}
use Rattle.av_rules.proofs.making.made_at.Goals as goal

pub returns-in-None-clause-none : goal.returns-in-None-clause-none
returns-in-None-clause-none c = λ made. nothing_stands c.args.world.now c.args.framed.now c.args.pc c.args.depth made c.in-None.ensures.value

pub returns-in-Some-clause-found : goal.returns-in-Some-clause-found
returns-in-Some-clause-found c =
    some_weaker c.made_by.result (Makes c.args.world.now c.in-Some.insn.now c.args.depth) (MakesAt c.args.world.now c.args.framed.now c.args.pc c.args.depth)
    (λ made h. (c.in-Some.insn.now, sym c.in-Some.ensures.value, h)) c.made_by.ensures.found

pub returns-in-Some-clause-none : goal.returns-in-Some-clause-none
returns-in-Some-clause-none c =
    none_weaker c.made_by.result ((made : FlatType) → Makes c.args.world.now c.in-Some.insn.now c.args.depth made → ⊥)
    ((made : FlatType) → MakesAt c.args.world.now c.args.framed.now c.args.pc c.args.depth made → ⊥)
    (λ none made. only_there c.args.world.now c.args.framed.now c.args.pc c.args.depth c.in-Some.insn.now made c.in-Some.ensures.value (none made)) c.made_by.ensures.none
