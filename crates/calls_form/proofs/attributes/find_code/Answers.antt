-- Each step of the loop, by the lemmas on looking for Code among attributes one after the other.
use Rattle.std.proofs.Common.{None}
use Rattle.std.proofs.lemmas.Result.{err_from_is_err_and}
use Rattle.calls_form.specs.LayoutReading.{code_at}
use Rattle.calls_form.proofs.LayoutLoops.{code_goes_on, code_ends, code_is_second, code_is_done}
use Rattle.calls_form.proofs.attributes.find_code.Goals as goal

pub returns-in_err-name : goal.returns-in_err-name
returns-in_err-name c =
    let p = err_from_is_err_and c.from_residual.result c.from_residual.ensures.1 in
    rw (p.1, p.2) (code_ends c.in_err-name.field-0.0 c.args.pool.now c.args.count c.loop.counter c.loop.found c.loop.rest.now (code_at c.args.pool.now c.args.count None c.args.bytes.now) c.loop-test.true c.in_err-name.ensures c.loop.invariant)

pub returns-in_err-found : goal.returns-in_err-found
returns-in_err-found c =
    let p = err_from_is_err_and c.from_residual-in_err-found.result c.from_residual-in_err-found.ensures.1 in
    rw (p.1, p.2) (code_is_second c.in_err-found.field-0.0 c.args.pool.now c.args.count c.loop.counter c.in_ok-name.name c.loop.found c.loop.rest.now c.in_ok-name.content.now c.in_ok-name.after.now (code_at c.args.pool.now c.args.count None c.args.bytes.now) c.loop-test.true c.in_ok-name.ensures c.in_err-found.ensures c.loop.invariant)

pub loop-preserved : goal.loop-preserved
loop-preserved c =
    code_goes_on c.args.pool.now c.args.count c.loop.counter c.in_ok-name.name c.loop.found c.in_ok-found.found c.loop.rest.now c.in_ok-name.content.now c.in_ok-name.after.now (code_at c.args.pool.now c.args.count None c.args.bytes.now) c.loop-test.true c.in_ok-name.ensures c.in_ok-found.ensures c.loop.invariant

pub returns : goal.returns
returns c = code_is_done c.args.pool.now c.args.count c.loop.counter c.loop.found c.loop.rest.now (code_at c.args.pool.now c.args.count None c.args.bytes.now) c.loop-test.false c.loop.invariant
