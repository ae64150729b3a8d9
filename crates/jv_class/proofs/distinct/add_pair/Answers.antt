use Rattle.jv_class.proofs.MemberPairs.{inserted}
use Rattle.jv_class.proofs.distinct.add_pair.Goals as goal

pub returns-clause-has : goal.returns-clause-has
returns-clause-has c = inserted c.args.pairs.now c.insert.new.self c.args.pair c.in_ok-added.ensures.updates.0
