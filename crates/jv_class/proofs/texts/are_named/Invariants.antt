-- The items so far keep the rules.
use Rattle.std.proofs.Common.{take, All}
use Rattle.jv_names.specs.PoolNames.{IsNamedItem}
use Rattle.jv_class.proofs.texts.are_named.Given as goal

abbrev pub invariant-loop-item : goal.invariant-loop-item
invariant-loop-item l = All (IsNamedItem l.pool) (take l.item-index l.item-items)
