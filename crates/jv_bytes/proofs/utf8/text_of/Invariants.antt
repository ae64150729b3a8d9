use Rattle.std.proofs.Common.{take}
use Rattle.jv_bytes.specs.Utf8.{IsText}
use Rattle.jv_bytes.proofs.utf8.text_of.Given as goal

abbrev pub invariant-loop-unit : goal.invariant-loop-unit
invariant-loop-unit l = IsText l.text.items (take l.unit-index l.units)
