use Rattle.std.proofs.Common.{take, get_or, subst}
use Rattle.std.proofs.lemmas.List.{take_more}
use Rattle.std.proofs.lemmas.List.Elements.{AllZip-push}
use Rattle.jv_types.specs.declared.frames.VType.{VType}
use Rattle.jv_typing.specs.Transitions.{IsReplaced}
use Rattle.jv_verify_refs.proofs.objects.replaced.Goals as goal

pub loop-word-preserved : goal.loop-word-preserved
loop-word-preserved c =
    let R : VType → VType → Type 0 = IsReplaced c.args.old.now c.args.new.now in
    let words = c.args.words.now in
    let i = c.loop-word.word-index in
    let x = c.word-item.result in
    rw (take_more words i x c.loop-word-test.true, c.in_ok-push.ensures.items) (AllZip-push R (take i words) c.loop-word.made.items (get_or words i x) c.in_ok-replaced_one.field-0
    c.loop-word.invariant (subst (λ (t : VType). R t c.in_ok-replaced_one.field-0) c.word-item.is c.in_ok-replaced_one.ensures))
