use Rattle.av_rules.specs.Steps.Programs.{program_of}
use Rattle.av_rules.proofs.SelectingLemmas.{untyped_selects_none}
use Rattle.av_rules.proofs.given.Given.selected.Goals as goal

pub returns-in-None-clause-none : goal.returns-in-None-clause-none
returns-in-None-clause-none c = λ m.
    untyped_selects_none (program_of c.args.self.now) c.args.interface c.args.label c.args.resolved m c.in-None.ensures.none
