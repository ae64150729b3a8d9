use Rattle.jv_insn.specs.Effects.{effect_of}
use Rattle.jv_resolve.proofs.Tests.{denied}
use Rattle.jv_verify_refs.proofs.Transits.{pops_of, no_cells, no_fits}
use Rattle.jv_verify_refs.proofs.pops.popped.Goals as goal

pub returns-in_default-clause-rule : goal.returns-in_default-clause-rule
returns-in_default-clause-rule c = λ is.
    no_cells c.args.step.now.world.now (effect_of c.args.step.now.insn.now).takes c.args.wanted.now c.args.stack.now
    (rw (c.as_slice.ensures.value, c.in_ok-cells.ensures) at c.in_default.ensures.none)

pub returns-then-are_assignable-clause-typed : goal.returns-then-are_assignable-clause-typed
returns-then-are_assignable-clause-typed c =
    pops_of c.args.step.now.world.now (effect_of c.args.step.now.insn.now).takes c.args.wanted.now c.args.stack.now c.in-Some.below.now
    (rw (c.as_slice.ensures.value, c.in_ok-cells.ensures) at c.in-Some.ensures.found)
    (rw (c.split_at.ensures.back, c.as_slice-2.ensures.value, c.in_ok-words.ensures) at c.are_assignable.ensures.0 c.if-are_assignable.true)

pub returns-clause-rule : goal.returns-clause-rule
returns-clause-rule c = λ is.
    no_fits c.args.step.now.world.now (effect_of c.args.step.now.insn.now).takes c.args.wanted.now c.args.stack.now c.in-Some.below.now
    (rw (c.as_slice.ensures.value, c.in_ok-cells.ensures) at c.in-Some.ensures.found)
    (rw (c.split_at.ensures.back, c.as_slice-2.ensures.value, c.in_ok-words.ensures) at (denied c.are_assignable.result c.if-are_assignable.false c.are_assignable.ensures.1))
