use Rattle.jv_bytes.proofs.NumberLaws.{number_in-is}
use Rattle.jv_bytes.proofs.laws.numbers_are_big_endian.Goals as goal

pub returns : goal.returns
returns c = number_in-is
