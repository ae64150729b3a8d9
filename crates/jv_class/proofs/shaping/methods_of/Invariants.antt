-- What those so far declare.
use Rattle.std.proofs.Common.{take}
use Rattle.std.specs.List.{AllZip}
use Rattle.jv_class.specs.Shapes.{IsMethodShape}
use Rattle.jv_class.proofs.shaping.methods_of.Given as goal

abbrev pub invariant-loop-member : goal.invariant-loop-member
invariant-loop-member l = AllZip (IsMethodShape l.pool) (take l.member-index l.members) l.methods.items
