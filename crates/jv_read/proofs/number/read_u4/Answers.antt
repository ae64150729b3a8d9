-- What the cursor found is the number that stands there.
use Rattle.jv_read.proofs.Fronts.{number_gives}
use Rattle.jv_read.proofs.number.read_u4.Goals as goal

pub returns : goal.returns
returns c = rw c.ok_or.ensures.value (number_gives 4 c.u4.result c.args.cursor.now c.u4.new.self c.u4.ensures.found c.u4.ensures.read c.u4.ensures.none)
