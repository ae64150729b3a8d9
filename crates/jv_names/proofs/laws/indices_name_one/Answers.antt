-- Each is a lemma.
use Rattle.jv_names.proofs.NamedOnce.{one_class, one_type, one_field_ref, one_method_ref}
use Rattle.jv_names.proofs.laws.indices_name_one.Goals as goal

pub returns : goal.returns
returns c = record { classes = one_class; types = one_type; fields = one_field_ref; methods = one_method_ref }
