use Rattle.std.proofs.Common.{IsTrue}
use Rattle.av_collected.specs.Rules.{collected_is_closed, collected_is_least}
use Rattle.av_collected.proofs.laws.collected_is_the_least.Goals as goal

pub returns-clause-closed : goal.returns-clause-closed
returns-clause-closed _ = collected_is_closed

pub returns-clause-least : goal.returns-clause-least
returns-clause-least _ = λ given library set closed. collected_is_least given library (λ item. IsTrue (set item)) closed
