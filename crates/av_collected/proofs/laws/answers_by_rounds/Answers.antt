use Rattle.av_collected.proofs.Answering.{unfit, missing, apart, answered, many_more}
use Rattle.av_collected.proofs.laws.answers_by_rounds.Goals as goal

pub returns-clause-unfit : goal.returns-clause-unfit
returns-clause-unfit c = λ given part library files out. unfit given part library files out (c.collected_by_rounds.ensures.ends given part library files out)

pub returns-clause-missing : goal.returns-clause-missing
returns-clause-missing c = λ given part library files out. missing given part library files out (c.collected_by_rounds.ensures.ends given part library files out)

pub returns-clause-apart : goal.returns-clause-apart
returns-clause-apart c = λ given part library files out. apart given part library files out (c.collected_by_rounds.ensures.ends given part library files out)

pub returns-clause-collected : goal.returns-clause-collected
returns-clause-collected c = λ given part library files out. answered given part library files out (c.collected_by_rounds.ensures.ends given part library files out)

pub returns-clause-many : goal.returns-clause-many
returns-clause-many _ = many_more
