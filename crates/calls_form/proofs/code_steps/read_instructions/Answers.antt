-- Each turn of the loop is one instruction.
use Rattle.std.proofs.Common.{◌-◌, length, arith}
use Rattle.std.proofs.lemmas.Result.{err_from_is_err_and}
use Rattle.calls_form.specs.ClassesBodies.{target_in, placed_from}
use Rattle.calls_form.proofs.ClassesTurns.{steps_go_on, steps_end, steps_done, step_shorter, some_left, none_left}
use Rattle.calls_form.proofs.code_steps.read_instructions.Goals as goal

pub returns-in_err-instruction : goal.returns-in_err-instruction
returns-in_err-instruction c =
    let p = err_from_is_err_and c.from_residual-in_err-instruction.result c.from_residual-in_err-instruction.ensures.1 in
    rw (p.1, p.2) (steps_end c.in_err-instruction.field-0.0 (target_in c.args.targets.now) c.loop-rest.placed.items (length c.args.bytes.now - length c.loop-rest.rest.now) c.loop-rest.rest.now (placed_from (target_in c.args.targets.now) 0 c.args.bytes.now) (some_left c.loop-rest.rest.now c.is_empty.result c.is_empty.ensures c.loop-rest-test.true) c.in_err-instruction.ensures c.loop-rest.invariant.so_far)

pub loop-rest-smaller : goal.loop-rest-smaller
loop-rest-smaller c = step_shorter (target_in c.args.targets.now) c.loop-rest.rest.now (c.in_ok-instruction.instruction, c.in_ok-instruction.after.now) c.in_ok-instruction.ensures

pub loop-rest-preserved : goal.loop-rest-preserved
loop-rest-preserved c =
    let shorter = step_shorter (target_in c.args.targets.now) c.loop-rest.rest.now (c.in_ok-instruction.instruction, c.in_ok-instruction.after.now) c.in_ok-instruction.ensures in
    record {
      within = omega (arith, shorter, c.loop-rest.invariant.within);
      so_far = rw c.in_ok-push.ensures.items (steps_go_on (target_in c.args.targets.now) c.loop-rest.placed.items (length c.args.bytes.now) c.loop-rest.rest.now (c.in_ok-instruction.instruction, c.in_ok-instruction.after.now) (placed_from (target_in c.args.targets.now) 0 c.args.bytes.now) (some_left c.loop-rest.rest.now c.is_empty.result c.is_empty.ensures c.loop-rest-test.true) c.loop-rest.invariant.within c.in_ok-instruction.ensures c.loop-rest.invariant.so_far);
    }

pub returns : goal.returns
returns c = steps_done (target_in c.args.targets.now) c.loop-rest.placed.items (length c.args.bytes.now - length c.loop-rest.rest.now) c.loop-rest.rest.now (placed_from (target_in c.args.targets.now) 0 c.args.bytes.now) (none_left c.loop-rest.rest.now c.is_empty.result c.is_empty.ensures c.loop-rest-test.false) c.loop-rest.invariant.so_far
