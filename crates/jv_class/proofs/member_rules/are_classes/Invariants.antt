-- Those so far keep the rules.
use Rattle.std.proofs.Common.{take, All}
use Rattle.jv_names.specs.PoolNames.{HasClassName}
use Rattle.jv_class.proofs.member_rules.are_classes.Given as goal

abbrev pub invariant-loop-index : goal.invariant-loop-index
invariant-loop-index l = All (HasClassName l.pool) (take l.index-index l.indices)
