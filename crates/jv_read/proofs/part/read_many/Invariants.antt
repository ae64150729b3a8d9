-- What was read and what is still read are all of it.
use Rattle.std.proofs.Common.{◌≡◌, ◌-◌}
use Rattle.jv_read.proofs.Loops.{with_front}
use Rattle.jv_read.specs.Reading.{many_at}
use Rattle.jv_read.proofs.part.read_many.Given as goal

abbrev pub invariant-loop : goal.invariant-loop
invariant-loop g l = with_front l.items.items (many_at (g.P.Part.part_at l.part) (l.count - l.counter) l.cursor) ≡ many_at (g.P.Part.part_at l.part) l.count l.fn.cursor
