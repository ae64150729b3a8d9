use Rattle.jv_typing.proofs.Moves.{have_forms}
use Rattle.jv_typing.proofs.typing_laws.moves_have_their_forms.Goals as goal

pub returns : goal.returns
returns c = have_forms
