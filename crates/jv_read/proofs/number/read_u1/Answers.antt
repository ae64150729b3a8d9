-- What the cursor found is the byte that stands there.
use Rattle.std.proofs.Common.{rules}
use Rattle.jv_read.proofs.Fronts.{u1_gives, byte_gives}
use Rattle.jv_read.proofs.number.read_u1.Goals as goal

pub returns-clause-byte : goal.returns-clause-byte
returns-clause-byte c = rw c.ok_or.ensures.value (u1_gives c.u1.result c.args.cursor.now c.u1.new.self c.u1.ensures.found c.u1.ensures.none)

pub returns-clause-number : goal.returns-clause-number
returns-clause-number c = rw c.ok_or.ensures.value (byte_gives c.u1.result c.args.cursor.now c.u1.new.self c.u1.ensures.found (search rules) c.u1.ensures.none)
