use Rattle.std.proofs.Common.{◌≡◌, map}
use Rattle.av_sorted.specs.Orders.{field_row}
use Rattle.av_sorted.proofs.members.field_rows.Given as goal

abbrev pub invariant-loop-field : goal.invariant-loop-field
invariant-loop-field l = l.rows.items ≡ map field_row l.yielded
