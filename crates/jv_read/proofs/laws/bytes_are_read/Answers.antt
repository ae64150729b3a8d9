-- By the lemmas on bytes at the front.
use Rattle.std.proofs.Common.{refl, length}
use Rattle.jv_read.proofs.Fronts.{bytes_again, bytes_take}
use Rattle.jv_read.proofs.laws.bytes_are_read.Goals as goal

pub returns-clause-reads : goal.returns-clause-reads
returns-clause-reads c text rest = bytes_again text rest (length text) refl

pub returns-clause-spelled : goal.returns-clause-spelled
returns-clause-spelled c n bytes text rest e = (bytes_take n bytes (text, rest) e).0

pub returns-clause-len : goal.returns-clause-len
returns-clause-len c n bytes text rest e = (bytes_take n bytes (text, rest) e).1
