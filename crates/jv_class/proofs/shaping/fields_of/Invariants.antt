-- What those so far declare.
use Rattle.std.proofs.Common.{take}
use Rattle.std.specs.List.{AllZip}
use Rattle.jv_class.specs.Shapes.{IsFieldShape}
use Rattle.jv_class.proofs.shaping.fields_of.Given as goal

abbrev pub invariant-loop-member : goal.invariant-loop-member
invariant-loop-member l = AllZip (IsFieldShape l.pool) (take l.member-index l.members) l.fields.items
