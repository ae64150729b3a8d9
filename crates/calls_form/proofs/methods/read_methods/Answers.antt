-- Each step of the loop, by the lemmas on reading methods one after the other.
use Rattle.std.proofs.lemmas.Result.{err_from_is_err_and}
use Rattle.calls_form.specs.LayoutReading.{methods_at}
use Rattle.calls_form.proofs.LayoutLoops.{method_goes_on, method_ends, methods_are_done}
use Rattle.calls_form.proofs.methods.read_methods.Goals as goal

pub returns-in_err-method : goal.returns-in_err-method
returns-in_err-method c =
    let p = err_from_is_err_and c.from_residual.result c.from_residual.ensures.1 in
    rw (p.1, p.2) (method_ends c.in_err-method.field-0.0 c.args.pool.now c.loop.methods.items c.args.count c.loop.counter c.loop.rest.now (methods_at c.args.pool.now c.args.count c.args.bytes.now) c.loop-test.true c.in_err-method.ensures c.loop.invariant)

pub loop-preserved : goal.loop-preserved
loop-preserved c =
    rw c.in_ok-push.ensures.items (method_goes_on c.args.pool.now c.loop.methods.items c.args.count c.loop.counter c.loop.rest.now c.in_ok-method.after.now c.in_ok-method.method (methods_at c.args.pool.now c.args.count c.args.bytes.now) c.loop-test.true c.in_ok-method.ensures c.loop.invariant)

pub returns : goal.returns
returns c = methods_are_done c.args.pool.now c.loop.methods.items c.args.count c.loop.counter c.loop.rest.now (methods_at c.args.pool.now c.args.count c.args.bytes.now) c.loop-test.false c.loop.invariant
