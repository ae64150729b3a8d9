use Rattle.std.proofs.lemmas.Result.{err_from_is_err_and}
use Rattle.jv_typing.specs.declared.no_typing.NoTyping.TheVariants as none
use Rattle.jv_verify_words.proofs.Stepping.{leaves_of, step_typed, no_room, no_store, same_error}
use Rattle.jv_verify_words.proofs.steps.word_step.Goals as goal

pub returns-in_default-below_cells-clause-rule : goal.returns-in_default-below_cells-clause-rule
returns-in_default-below_cells-clause-rule c = λ is after h.
    let ends = h.typing.takes in
    let leaves = leaves_of c.args.insn.now c.in-Some.cells c.args.frame.now.stack c.in-Some.ensures.found ends in
    c.in_default-below_cells.ensures.none ends.below (rw c.as_slice-stack.ensures leaves)

pub returns-in_err-stack_after-clause-rule : goal.returns-in_err-stack_after-clause-rule
returns-in_err-stack_after-clause-rule c = λ is after h.
    let p = err_from_is_err_and c.from_residual.result c.from_residual.ensures.1 in
    let more = c.in_err-stack_after.ensures.rule (same_error c.from_residual.result p.0 c.in_err-stack_after.field-0.0 none.Rule p.1 p.2 is) in
    let leaves = rw c.as_slice-stack.ensures at c.in-Some-below_cells.ensures.found in
    no_room c.args.max_stack c.args.frame.now c.args.insn.now c.in-Some.cells c.in-Some-below_cells.below.now c.in-Some.ensures.found leaves more after h

pub returns-in_err-locals_after-clause-rule : goal.returns-in_err-locals_after-clause-rule
returns-in_err-locals_after-clause-rule c = λ is after h.
    let p = err_from_is_err_and c.from_residual-in_err-locals_after.result c.from_residual-in_err-locals_after.ensures.1 in
    let none_after = c.in_err-locals_after.ensures.rule (same_error c.from_residual-in_err-locals_after.result p.0 c.in_err-locals_after.field-0.0 none.Rule p.1 p.2 is) in
    let leaves = rw c.as_slice-stack.ensures at c.in-Some-below_cells.ensures.found in
    no_store c.args.max_stack c.args.frame.now c.args.insn.now c.in-Some.cells c.in-Some-below_cells.below.now c.in-Some.ensures.found leaves
    (rw (c.split_at.ensures.back, c.as_slice-locals.ensures, c.as_slice-stack.ensures) at none_after) after h

pub returns-clause-typed : goal.returns-clause-typed
returns-clause-typed c =
    let leaves = rw c.as_slice-stack.ensures at c.in-Some-below_cells.ensures.found in
    let reads = rw c.as_slice-locals.ensures at c.reads_hold.ensures.0 c.if-not-reads_hold.false in
    let locals = rw (c.split_at.ensures.back, c.as_slice-locals.ensures, c.as_slice-stack.ensures) at c.in_ok-locals_after.ensures.ok in
    step_typed c.args.max_stack c.args.frame.now c.args.insn.now c.in-Some.cells c.in-Some-below_cells.below.now c.in_ok-stack_after.field-0 c.in_ok-locals_after.field-0
    c.in-Some.ensures.found leaves reads c.in_ok-stack_after.ensures.ok c.in_ok-stack_after.ensures.room locals
