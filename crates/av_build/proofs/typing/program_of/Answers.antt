use Rattle.std.proofs.Common.{rules}
use Rattle.std.proofs.lemmas.Result.{err_from_is_err_and}
use Rattle.av_build.proofs.Outcomes.{stopped_at_instructions, stopped_at_main, stopped_at_method}
use Rattle.av_build.proofs.typing.program_of.Goals as goal

pub returns-in_err-methods-clause-stopped : goal.returns-in_err-methods-clause-stopped
returns-in_err-methods-clause-stopped c =
    let p = err_from_is_err_and c.from_residual.result c.from_residual.ensures.1 in
    rw (p.1, p.2) (stopped_at_method c.args.world c.args.classes.now _ c.in_err-methods.field-0.0 c.in_err-methods.ensures.stopped)

pub returns-in_err-start-clause-stopped : goal.returns-in_err-start-clause-stopped
returns-in_err-start-clause-stopped c =
    let p = err_from_is_err_and c.from_residual-in_err-start.result c.from_residual-in_err-start.ensures.1 in
    rw (p.1, p.2) (stopped_at_main c.args.world c.args.classes.now c.in_ok-methods.methods.items _ c.in_err-start.field-0.0 c.in_ok-methods.ensures.accepted c.in_err-start.ensures.refused)

pub returns-then-has_too_many-clause-stopped : goal.returns-then-has_too_many-clause-stopped
returns-then-has_too_many-clause-stopped c =
    stopped_at_instructions c.args.world c.args.classes.now c.in_ok-methods.methods.items _ c.in_ok-start.start c.passed.result c.passed.ensures
    c.in_ok-methods.ensures.accepted c.in_ok-start.ensures.start (search rules)
