-- The first such one is the only one, or there are two.
use Rattle.std.proofs.Common.{◌∙◌, sym}
use Rattle.jv_resolve.proofs.Tests.{denied}
use Rattle.jv_resolve.proofs.superinterfaces.single_default.Goals as goal

pub returns-in_default-clause-none : goal.returns-in_default-clause-none
returns-in_default-clause-none c = λ m p. c.in_default.ensures.none m p.among p.default

pub returns-then-is_only_default-clause-found : goal.returns-then-is_only_default-clause-found
returns-then-is_only_default-clause-found c = record {
  among = c.in-Some.ensures.found.0;
  default = c.in-Some.ensures.found.1;
  only = c.is_only_default.ensures.0 c.if-is_only_default.true;
}

pub returns-clause-none : goal.returns-clause-none
returns-clause-none c = λ m p.
    let first_is = p.only c.in-Some.m c.in-Some.ensures.found.0 c.in-Some.ensures.found.1 in
    denied c.is_only_default.result c.if-is_only_default.false c.is_only_default.ensures.1 (λ other among q. p.only other among q ∙ sym first_is)
