use Rattle.std.proofs.Common.{Option, IfOk, sym, subst}
use Rattle.jv_types.specs.declared.quantity.Quantity.{Quantity}
use Rattle.av_collected.specs.Sources.{TellsPassed}
use Rattle.tests_collect.proofs.mem_source.answer.Goals as goal

pub returns-in-None-clause-passed : goal.returns-in-None-clause-passed
returns-in-None-clause-passed c = subst (λ (p : Option Quantity). IfOk c.found_under.result (λ found. TellsPassed found p)) (sym c.in-None.is) c.found_under.ensures.looked
