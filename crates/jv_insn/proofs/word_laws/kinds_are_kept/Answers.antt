-- What holds of words of any type holds of kinds.
use Rattle.std.proofs.Common.{Some, length, ap, ◌∙◌}
use Rattle.jv_insn.specs.Kinds.{WordKind, kind_given}
use Rattle.jv_insn.proofs.Leaving.{stands_after, word_left, word_given}
use Rattle.jv_insn.proofs.word_laws.kinds_are_kept.Goals as goal

pub returns : goal.returns
returns c = record {
  left = λ insn words from to kind leaves stands at.
      let given = kind_given insn (length words.stack) in
      stands_after insn given words to stands ∙ ap (λ (k : WordKind). Some k) (word_left insn given words from to kind leaves at);
  given = λ insn words to none stands.
      let given = kind_given insn (length words.stack) in
      stands_after insn given words to stands ∙ ap (λ (k : WordKind). Some k) (word_given insn given words to none);
}
