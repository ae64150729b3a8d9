-- Each step of the loop, by the lemmas on passing over attributes one after the other.
use Rattle.std.proofs.lemmas.Result.{err_from_is_err_and}
use Rattle.calls_form.specs.LayoutReading.{behind_at}
use Rattle.calls_form.proofs.LayoutLoops.{behind_goes_on, behind_ends, behind_is_done}
use Rattle.calls_form.proofs.attributes.pass_attributes.Goals as goal

pub returns-in_err-_name : goal.returns-in_err-_name
returns-in_err-_name c =
    let p = err_from_is_err_and c.from_residual.result c.from_residual.ensures.1 in
    rw (p.1, p.2) (behind_ends c.in_err-_name.field-0.0 c.args.count c.loop.counter c.loop.rest.now (behind_at c.args.count c.args.bytes.now) c.loop-test.true c.in_err-_name.ensures c.loop.invariant)

pub loop-preserved : goal.loop-preserved
loop-preserved c =
    behind_goes_on c.args.count c.loop.counter c.in_ok-_name._name c.loop.rest.now c.in_ok-_name._content.now c.in_ok-_name.after.now (behind_at c.args.count c.args.bytes.now) c.loop-test.true c.in_ok-_name.ensures c.loop.invariant

pub returns : goal.returns
returns c = behind_is_done c.args.count c.loop.counter c.loop.rest.now (behind_at c.args.count c.args.bytes.now) c.loop-test.false c.loop.invariant
