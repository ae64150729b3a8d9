use Rattle.std.proofs.Common.{◌≡◌, Some, sym, ◌∙◌, subst}
use Rattle.jv_resolve.proofs.Tests.{denied, none_weaker, some_weaker}
use Rattle.jv_types.specs.Bodies.{at_offset}
use Rattle.jv_types.specs.declared.frames.FramedBody.{FramedBody}
use Rattle.av_rules.specs.declared.flat_type.FlatType.{FlatType}
use Rattle.av_rules.specs.Labels.{IsSiteType}
use Rattle.av_rules.specs.Steps.Making.{MakesAt}
use Rattle.av_rules.specs.Steps.Programs.{program_of}
use Rattle.av_rules.proofs.Types.{body_one}
use Rattle.av_rules.proofs.given.Given.site_type.Goals as goal

pub returns-then-not-is_application_class-clause-none : goal.returns-then-not-is_application_class-clause-none
returns-then-not-is_application_class-clause-none c = λ made x.
    denied c.is_application_class.result c.if-not-is_application_class.true c.is_application_class.ensures.1 x.application

pub returns-in-None-clause-none : goal.returns-in-None-clause-none
returns-in-None-clause-none c = λ made x. c.in-None.ensures.none x.framed x.given x.of_method

pub returns-in-Some-clause-found : goal.returns-in-Some-clause-found
returns-in-Some-clause-found c =
    let framed = c.in-Some.framed.now in
    some_weaker c.made_at.result (MakesAt c.args.self.now.world.now framed c.args.pc c.args.depth) (IsSiteType (program_of c.args.self.now) c.args.m c.args.pc c.args.depth)
    (λ made h. record {
      framed = framed;
      given = c.in-Some.ensures.found.0;
      of_method = c.in-Some.ensures.found.1;
      application = c.is_application_class.ensures.0 c.if-not-is_application_class.false;
      insn = h.0;
      stands = h.1;
      makes = h.2;
    })
    c.made_at.ensures.found

pub returns-in-Some-clause-none : goal.returns-in-Some-clause-none
returns-in-Some-clause-none c =
    let framed = c.in-Some.framed.now in
    let methods = c.args.self.now.methods.now in
    none_weaker c.made_at.result ((made : FlatType) → MakesAt c.args.self.now.world.now framed c.args.pc c.args.depth made → ⊥)
    ((made : FlatType) → IsSiteType (program_of c.args.self.now) c.args.m c.args.pc c.args.depth made → ⊥)
    (λ none made x.
    let same : x.framed ≡ framed =
    body_one methods x.framed framed c.requires.kept.analysable.conditions.distinct x.given c.in-Some.ensures.found.0 (x.of_method ∙ sym c.in-Some.ensures.found.1) in
    none made (x.insn, subst (λ (f : FramedBody). at_offset c.args.pc f.body.insns ≡ Some x.insn) same x.stands, x.makes))
    c.made_at.ensures.none
