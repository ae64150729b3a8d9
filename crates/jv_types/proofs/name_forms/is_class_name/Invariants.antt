use Rattle.std.proofs.Common.{◌≡◌, drop}
use Rattle.jv_types.specs.NameForms.{goes_on, is_class_name}
use Rattle.jv_types.proofs.name_forms.is_class_name.Given as goal

abbrev pub invariant-loop-byte : goal.invariant-loop-byte
invariant-loop-byte l = goes_on l.begun (drop l.byte-index l.bytes) ≡ is_class_name l.bytes
