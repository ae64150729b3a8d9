use Rattle.std.proofs.Common.{◌≡◌, map}
use Rattle.av_sorted.specs.Orders.{value_of}
use Rattle.av_sorted.proofs.members.values_of.Given as goal

abbrev pub invariant-loop-row : goal.invariant-loop-row
invariant-loop-row g l = l.values.items ≡ map value_of l.yielded
