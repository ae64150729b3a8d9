use Rattle.std.proofs.Common.{◌≡◌, subst}
use Rattle.jv_resolve.proofs.Tests.{none_weaker, some_weaker}
use Rattle.av_rules.specs.declared.flat_type.FlatType.{FlatType}
use Rattle.av_rules.specs.Labels.{AreItems, IsBound}
use Rattle.av_rules.specs.Steps.Programs.{program_of}
use Rattle.av_rules.proofs.Types.{type_one}
use Rattle.av_rules.proofs.given.Given.bound_of.Goals as goal

pub returns-in-None-clause-none : goal.returns-in-None-clause-none
returns-in-None-clause-none c = λ bound x. c.in-None.ensures.none x.0 x.1

pub returns-in-Some-clause-found : goal.returns-in-Some-clause-found
returns-in-Some-clause-found c =
    some_weaker c.items_of.result (AreItems c.args.self.now.world.now c.in-Some.made) (IsBound (program_of c.args.self.now) c.args.label)
    (λ bound h. (c.in-Some.made, c.in-Some.ensures.found, h)) c.items_of.ensures.found

pub returns-in-Some-clause-none : goal.returns-in-Some-clause-none
returns-in-Some-clause-none c =
    let p = program_of c.args.self.now in
    none_weaker c.items_of.result ((bound : FlatType) → AreItems p.world c.in-Some.made bound → ⊥) ((bound : FlatType) → IsBound p c.args.label bound → ⊥)
    (λ none bound x.
    let same : x.0 ≡ c.in-Some.made =
    type_one p c.args.label x.0 c.in-Some.made c.requires.kept.world.numbered c.requires.kept.analysable.conditions.distinct x.1 c.in-Some.ensures.found in
    none bound (subst (λ (f : FlatType). AreItems p.world f bound) same x.2))
    c.items_of.ensures.none
