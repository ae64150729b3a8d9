use Rattle.jv_typing.proofs.TypingOnce.{one_word_typing, one_move_typing}
use Rattle.jv_typing.proofs.typing_laws.typing_is_a_function.Goals as goal

pub returns-clause-words : goal.returns-clause-words
returns-clause-words c = one_word_typing

pub returns-clause-moves : goal.returns-clause-moves
returns-clause-moves c = one_move_typing
