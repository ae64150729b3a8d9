use Rattle.jv_typing_laws.proofs.KindSafety.{kind_safe}
use Rattle.jv_typing_laws.proofs.kind_safe.type_safe_is_kind_safe.Goals as goal

pub returns : goal.returns
returns c = λ w framed safe. kind_safe w framed safe.0 safe.1 safe.2
