use Rattle.std.proofs.Common.{take}
use Rattle.std.specs.List.{AllZip}
use Rattle.jv_frames.specs.Maps.{IsTypeOf}
use Rattle.jv_frames.proofs.map_types.types_of.Given as goal

abbrev pub invariant-loop-t : goal.invariant-loop-t
invariant-loop-t l = AllZip (IsTypeOf l.pool) (take l.t-index l.written) l.types.items
