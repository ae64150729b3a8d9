-- Each turn of the loop is one parameter.
use Rattle.std.proofs.Common.{refl, sym, ◌∙◌}
use Rattle.std.proofs.lemmas.Result.{err_from_is_err_and}
use Rattle.calls_form.specs.ClassesTypes.{arguments_at}
use Rattle.calls_form.proofs.ClassesTypeLoops.{type_goes_on, type_ends, types_close, types_are_done}
use Rattle.calls_form.proofs.class_of_types.read_arguments.Goals as goal

pub loop-init : goal.loop-init
unfolding arguments_at
loop-init c = refl

pub returns-then-is_closed : goal.returns-then-is_closed
returns-then-is_closed c = types_close c.args.own.now c.loop.words.items 255 c.loop.counter c.loop.rest.now (arguments_at c.args.own.now c.args.receiver.items c.args.bytes.now) c.loop-test.true (sym c.is_closed.ensures ∙ c.if-is_closed.true) c.loop.invariant

pub returns-in_err-kind : goal.returns-in_err-kind
returns-in_err-kind c =
    let p = err_from_is_err_and c.from_residual.result c.from_residual.ensures.1 in
    rw (p.1, p.2) (type_ends c.in_err-kind.field-0.0 c.args.own.now c.loop.words.items 255 c.loop.counter c.loop.rest.now (arguments_at c.args.own.now c.args.receiver.items c.args.bytes.now) c.loop-test.true (sym c.is_closed.ensures ∙ c.if-is_closed.false) c.in_err-kind.ensures c.loop.invariant)

pub loop-preserved : goal.loop-preserved
loop-preserved c =
    rw c.in_ok-push.ensures.items (type_goes_on c.args.own.now c.loop.words.items 255 c.loop.counter c.loop.rest.now c.in_ok-kind.after.now c.in_ok-kind.kind (arguments_at c.args.own.now c.args.receiver.items c.args.bytes.now) c.loop-test.true (sym c.is_closed.ensures ∙ c.if-is_closed.false) c.in_ok-kind.ensures c.loop.invariant)

pub returns : goal.returns
returns c = types_are_done c.args.own.now c.loop.words.items 255 c.loop.counter c.loop.rest.now (arguments_at c.args.own.now c.args.receiver.items c.args.bytes.now) c.loop-test.false c.loop.invariant
