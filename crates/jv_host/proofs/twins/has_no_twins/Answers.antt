-- The first of the files that are left has a twin behind it, or the others decide.
use Rattle.std.proofs.Common.{List, sym, ◌∙◌, subst, refl, true≢false}
use Rattle.std.proofs.lemmas.List.{nil_from_length}
use Rattle.jv_host.specs.declared.host.HostFile.{HostFile}
use Rattle.jv_host.specs.Files.{HasNoTwins}
use Rattle.jv_host.proofs.TwinLemmas.{twin_of_first, no_twin_of_first, no_twins_of_none}
use Rattle.jv_host.proofs.twins.has_no_twins.Goals as goal

pub returns-then-has_twin : goal.returns-then-has_twin
returns-then-has_twin c = (
  λ no. absurd (true≢false (sym no)),
  λ h. absurd (twin_of_first c.in-Some.first.now c.in-Some.others.now (sym c.has_twin.ensures ∙ c.if-has_twin.true)
      (subst (λ (fs : List HostFile). HasNoTwins fs) c.in-Some.ensures.cases.0 (c.loop-first.invariant.1 h))),
)

pub loop-first-preserved : goal.loop-first-preserved
loop-first-preserved c =
    let step = no_twin_of_first c.in-Some.first.now c.in-Some.others.now (sym c.has_twin.ensures ∙ c.if-has_twin.false) in (
      λ h. c.loop-first.invariant.0 (subst (λ (fs : List HostFile). HasNoTwins fs) (sym c.in-Some.ensures.cases.0) (step.0 h)),
      λ h. step.1 (subst (λ (fs : List HostFile). HasNoTwins fs) c.in-Some.ensures.cases.0 (c.loop-first.invariant.1 h)),
    )

pub returns : goal.returns
returns c = (
  λ _. c.loop-first.invariant.0 (subst (λ (fs : List HostFile). HasNoTwins fs) (sym (nil_from_length c.loop-first.rest.now c.in_default.ensures.cases)) no_twins_of_none),
  λ _. refl,
)
