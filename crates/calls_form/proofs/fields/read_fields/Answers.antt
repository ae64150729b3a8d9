-- Each step of the loop, by the lemmas on reading fields one after the other.
use Rattle.std.proofs.lemmas.Result.{err_from_is_err_and}
use Rattle.calls_form.specs.LayoutReading.{fields_at}
use Rattle.calls_form.proofs.LayoutLoops.{field_goes_on, field_ends, fields_are_done}
use Rattle.calls_form.proofs.fields.read_fields.Goals as goal

pub returns-in_err-field : goal.returns-in_err-field
returns-in_err-field c =
    let p = err_from_is_err_and c.from_residual.result c.from_residual.ensures.1 in
    rw (p.1, p.2) (field_ends c.in_err-field.field-0.0 c.loop.fields.items c.args.count c.loop.counter c.loop.rest.now (fields_at c.args.count c.args.bytes.now) c.loop-test.true c.in_err-field.ensures c.loop.invariant)

pub loop-preserved : goal.loop-preserved
loop-preserved c =
    rw c.in_ok-push.ensures.items (field_goes_on c.loop.fields.items c.args.count c.loop.counter c.loop.rest.now c.in_ok-field.after.now c.in_ok-field.field (fields_at c.args.count c.args.bytes.now) c.loop-test.true c.in_ok-field.ensures c.loop.invariant)

pub returns : goal.returns
returns c = fields_are_done c.loop.fields.items c.args.count c.loop.counter c.loop.rest.now (fields_at c.args.count c.args.bytes.now) c.loop-test.false c.loop.invariant
