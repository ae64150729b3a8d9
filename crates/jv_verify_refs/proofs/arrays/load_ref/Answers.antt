use Rattle.jv_types.specs.declared.frames.VType.{VType}
use Rattle.jv_resolve.proofs.Tests.{none_at, some_at}
use Rattle.jv_typing.specs.References.{LoadsItem}
use Rattle.jv_verify_refs.proofs.ArrayKinds.{no_item, no_load}
use Rattle.jv_verify_refs.proofs.arrays.load_ref.Goals as goal

pub returns-in_default-2-clause-rule : goal.returns-in_default-2-clause-rule
returns-in_default-2-clause-rule c = λ is.
    no_item c.args.step.now c.in-Some.array.now c.in-Some.below.now (rw c.as_slice.ensures at c.in-Some.ensures.found)
    (none_at c.in_ok-item.field-0 ((item : VType) → LoadsItem c.in-Some.array.now item → ⊥) c.in_default-2.is c.in_ok-item.ensures.none)

pub returns-clause-rule : goal.returns-clause-rule
returns-clause-rule c = λ is.
    no_load c.args.step.now c.in-Some.array.now c.in-Some-2.item c.in-Some.below.now (rw c.as_slice.ensures at c.in-Some.ensures.found)
    (some_at c.in_ok-item.field-0 c.in-Some-2.item (λ (item : VType). LoadsItem c.in-Some.array.now item) c.in-Some-2.is c.in_ok-item.ensures.found)
    (c.with_stack.ensures.rule is)
