use Rattle.jv_typing.specs.TypeSafe.{by_map}
use Rattle.jv_typing.proofs.typing_laws.maps_are_forced.Goals as goal

pub returns : goal.returns
returns c = λ w method body maps pc frame stands. by_map pc frame stands
