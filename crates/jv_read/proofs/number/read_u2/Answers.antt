-- What the cursor found is the number that stands there.
use Rattle.jv_read.proofs.Fronts.{number_gives}
use Rattle.jv_read.proofs.number.read_u2.Goals as goal

pub returns : goal.returns
returns c = rw c.ok_or.ensures.value (number_gives 2 c.u2.result c.args.cursor.now c.u2.new.self c.u2.ensures.found c.u2.ensures.read c.u2.ensures.none)
