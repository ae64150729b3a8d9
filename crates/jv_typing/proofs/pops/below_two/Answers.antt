use Rattle.std.proofs.Common.{◌≡◌, ◌++◌, ◌∷◌, [], List, Option, Some, None, IfNone, sym, ◌∙◌, append_assoc}
use Rattle.jv_types.specs.declared.frames.VType.{VType, Top}
use Rattle.jv_typing.proofs.Popping.{under_top}
use Rattle.jv_typing.proofs.pops.below_two.Goals as goal

weaker : {X : Type 0} (P Q : Type 0) (o : Option X) → (P → Q) → IfNone o P → IfNone o Q
weaker P Q None f h = f h
weaker P Q (Some x) f h = tt

pub returns-in-Some-clause-none : goal.returns-in-Some-clause-none
returns-in-Some-clause-none c =
    weaker ((below : List VType) → c.in-Some.first.now ≡ below ++ c.args.word.now ∷ [] → ⊥) ((below : List VType) → c.args.stack.now ≡ below ++ c.args.word.now ∷ Top ∷ [] → ⊥) c.below_word-in-Some.result
    (λ none below e. none below (under_top c.args.stack.now c.in-Some.first.now below c.args.word.now c.in-Some.ensures.found e)) c.below_word-in-Some.ensures.none

pub returns-in-None-clause-none : goal.returns-in-None-clause-none
returns-in-None-clause-none c = λ below e.
    c.in-None.ensures.none (below ++ c.args.word.now ∷ []) (e ∙ sym (append_assoc below (c.args.word.now ∷ []) (Top ∷ [])))
