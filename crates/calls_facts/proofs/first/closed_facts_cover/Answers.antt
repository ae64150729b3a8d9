use Rattle.calls_facts.proofs.Runs.{covers}
use Rattle.calls_facts.proofs.first.closed_facts_cover.Goals as goal

pub returns : goal.returns
returns c = λ class set safe closed events calls end run. covers class set closed safe events calls end run
