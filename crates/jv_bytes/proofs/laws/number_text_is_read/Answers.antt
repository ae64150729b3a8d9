use Rattle.jv_bytes.proofs.NumberLaws.{number_text-read, number_text-only, number_text-fits}
use Rattle.jv_bytes.proofs.laws.number_text_is_read.Goals as goal

pub returns-clause-read : goal.returns-clause-read
returns-clause-read c = number_text-read

pub returns-clause-only : goal.returns-clause-only
returns-clause-only c = number_text-only

pub returns-clause-fits : goal.returns-clause-fits
returns-clause-fits c = number_text-fits
