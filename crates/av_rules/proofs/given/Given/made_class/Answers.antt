use Rattle.std.proofs.Common.{◌≡◌, inl, inr, ⊎_elim}
use Rattle.jv_resolve.proofs.Tests.{none_weaker, some_weaker}
use Rattle.jv_types.specs.declared.ids.ClassId.{ClassId}
use Rattle.jv_types.specs.declared.shapes.Shape.{Shape}
use Rattle.av_rules.specs.Labels.{IsMadeClass}
use Rattle.av_rules.specs.StandInClasses.{IsAnyClassOf, IsFinalClass}
use Rattle.av_rules.proofs.given.Given.made_class.Goals as goal

pub returns-in-Some-clause-found : goal.returns-in-Some-clause-found
returns-in-Some-clause-found c = inl c.in-Some.ensures

pub returns-in-None-clause-found : goal.returns-in-None-clause-found
returns-in-None-clause-found c =
    let w = c.args.self.now.world.now in
    let Own : ClassId → Type 0 = λ own. (own ≡ c.args.c) × (class : Shape) × IsFinalClass w c.args.c.number class in
    some_weaker c.final_class.result Own (IsMadeClass w c.args.c) (λ own h. inr (h.1, h.2, h.0)) c.final_class.ensures.found

pub returns-in-None-clause-none : goal.returns-in-None-clause-none
returns-in-None-clause-none c =
    let w = c.args.self.now.world.now in
    none_weaker c.final_class.result ((class : Shape) → IsFinalClass w c.args.c.number class → ⊥) ((made : ClassId) → IsMadeClass w c.args.c made → ⊥)
    (λ none made x. ⊎_elim (λ (left : IsAnyClassOf w c.args.c.number made.number). c.in-None.ensures made.number left)
    (λ (right : (class : Shape) × IsFinalClass w c.args.c.number class × (made ≡ c.args.c)). none right.0 right.1) x)
    c.final_class.ensures.none
