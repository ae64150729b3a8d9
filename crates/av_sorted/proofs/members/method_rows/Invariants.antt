use Rattle.std.proofs.Common.{◌≡◌, map}
use Rattle.av_sorted.specs.Orders.{method_row}
use Rattle.av_sorted.proofs.members.method_rows.Given as goal

abbrev pub invariant-loop-method : goal.invariant-loop-method
invariant-loop-method l = l.rows.items ≡ map method_row l.yielded
