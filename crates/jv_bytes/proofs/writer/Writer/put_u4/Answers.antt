use Rattle.std.proofs.Common.{rules}
use Rattle.jv_bytes.specs.Numbers.{number_text}
use Rattle.jv_bytes.proofs.writer.Writer.put_u4.Goals as goal

pub returns-clause-ok : goal.returns-clause-ok
unfolding number_text
returns-clause-ok c = search rules
