use Rattle.std.proofs.Common.{List, take, get_or, inl, inr, subst, sym, ◌∙◌}
use Rattle.std.specs.List.{Contains}
use Rattle.std.proofs.lemmas.List.{take_more, take_all}
use Rattle.std.proofs.lemmas.List.Elements.{Contains-push_cases}
use Rattle.jv_types.specs.declared.frames.VType.{VType}
use Rattle.jv_resolve.proofs.Tests.{never, denied}
use Rattle.jv_verify_refs.proofs.objects.has_word.Goals as goal

pub loop-other-preserved : goal.loop-other-preserved
loop-other-preserved c = λ p.
    let words = c.args.words.now in
    let i = c.loop-other.other-index in
    let x = c.other-item.result in
    elim (Contains-push_cases (take i words) (get_or words i x) c.args.word.now (subst (λ (ws : List VType). Contains ws c.args.word.now) (take_more words i x c.loop-other-test.true) p)) [
      | inl a ↦ c.loop-other.invariant a
      | inr b ↦ denied c.is.result c.if-is.false c.is.ensures.1 (c.other-item.is ∙ b)
    ]

pub returns : goal.returns
returns c =
    never (Contains c.args.words.now c.args.word.now) (λ p.
    c.loop-other.invariant (subst (λ (ws : List VType). Contains ws c.args.word.now) (sym (take_all c.loop-other.other-index c.args.words.now c.loop-other-test.false)) p))
