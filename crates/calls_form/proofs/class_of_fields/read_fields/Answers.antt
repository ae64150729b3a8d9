-- Each turn of the loop is one field.
use Rattle.std.proofs.lemmas.Result.{err_from_is_err_and}
use Rattle.calls_form.specs.declared.outline.RawField.{RawField}
use Rattle.calls_form.specs.ClassesHeads.{field_at, each}
use Rattle.calls_form.proofs.ClassesLoops.{each_goes_on_or, each_ends_or, each_done}
use Rattle.calls_form.proofs.class_of_fields.read_fields.Goals as goal

-- what stands for an element that isn't there
abbrev other : RawField
other = record { access = record { 0 = 0 }; name = 0; desc = 0 }

pub returns-in_err-read_field : goal.returns-in_err-read_field
returns-in_err-read_field c =
    let p = err_from_is_err_and c.from_residual.result c.from_residual.ensures.1 in
    let f = field_at c.args.pool.now c.args.own.now in
    rw (p.1, p.2) (each_ends_or f c.args.raws.now c.in_err-read_field.field-0.0 c.loop-raw.fields.items c.loop-raw.raw-index other (each f c.args.raws.now) c.loop-raw-test.true c.in_err-read_field.ensures c.loop-raw.invariant)

pub loop-raw-preserved : goal.loop-raw-preserved
loop-raw-preserved c =
    let f = field_at c.args.pool.now c.args.own.now in
    rw c.in_ok-push.ensures.items (each_goes_on_or f c.args.raws.now c.loop-raw.fields.items c.loop-raw.raw-index other c.in_ok-read_field.field-0 (each f c.args.raws.now) c.loop-raw-test.true c.in_ok-read_field.ensures c.loop-raw.invariant)

pub returns : goal.returns
returns c = let f = field_at c.args.pool.now c.args.own.now in each_done f c.args.raws.now c.loop-raw.fields.items c.loop-raw.raw-index (each f c.args.raws.now) c.loop-raw-test.false c.loop-raw.invariant
