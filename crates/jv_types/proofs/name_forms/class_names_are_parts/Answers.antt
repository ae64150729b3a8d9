use Rattle.jv_types.proofs.NameParts.{class_name_is, class_name_from}
use Rattle.jv_types.proofs.name_forms.class_names_are_parts.Goals as goal

pub returns : goal.returns
returns c = λ bytes. (class_name_is bytes, class_name_from bytes)
