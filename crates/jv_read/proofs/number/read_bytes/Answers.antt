-- What the cursor found are the bytes that stand there.
use Rattle.jv_read.proofs.Fronts.{bytes_give}
use Rattle.jv_read.proofs.number.read_bytes.Goals as goal

pub returns : goal.returns
returns c = rw c.ok_or.ensures.value (bytes_give c.args.count c.take.result c.args.cursor.now c.take.new.self c.take.ensures.front c.take.ensures.rest c.take.ensures.none)
