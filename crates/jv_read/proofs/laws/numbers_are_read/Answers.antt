-- By the lemmas on numbers at the front.
use Rattle.jv_read.proofs.Fronts.{number_again, number_takes, number_refuses}
use Rattle.jv_read.proofs.laws.numbers_are_read.Goals as goal

pub returns-clause-reads : goal.returns-clause-reads
returns-clause-reads c n number rest lt = number_again n number rest lt

pub returns-clause-spelled : goal.returns-clause-spelled
returns-clause-spelled c n number bytes rest e = (number_takes n bytes (number, rest) e).0

pub returns-clause-fits : goal.returns-clause-fits
returns-clause-fits c n number bytes rest e = (number_takes n bytes (number, rest) e).1

pub returns-clause-refuses : goal.returns-clause-refuses
returns-clause-refuses c n number bytes rest e lt parts = number_refuses n number bytes rest e lt parts
