use Rattle.std.proofs.Common.{refl, inl, inr}
use Rattle.av_rules.proofs.given.Given.seen_class.Goals as goal

pub returns-in-None : goal.returns-in-None
returns-in-None c = inr ((λ x. c.in-None.ensures.none x.0 x.1), refl)

pub returns-in-Some : goal.returns-in-Some
returns-in-Some c = inl (c.in-Some.own, c.in-Some.ensures.found, refl)
