use Rattle.std.proofs.Common.{◌≡◌, false}
use Rattle.jv_types.specs.declared.frames.VType.{VType, Null}
use Rattle.jv_frames.specs.Types.{is_array}
use Rattle.jv_resolve.proofs.Tests.{none_at, some_at}
use Rattle.jv_verify_refs.proofs.ArrayKinds.{IsArrayFor, no_array, no_length}
use Rattle.jv_verify_refs.proofs.arrays.array_length.Goals as goal

pub returns-in_default-2-clause-rule : goal.returns-in_default-2-clause-rule
returns-in_default-2-clause-rule c = λ is.
    let not = none_at c.in_ok-array.field-0 ((c.in-Some.word.now ≡ Null → ⊥) × (is_array c.in-Some.word.now ≡ false)) c.in_default-2.is c.in_ok-array.ensures.none in
    no_array c.args.step.now c.in-Some.word.now c.in-Some.field-0-1.now (rw c.as_slice.ensures at c.in-Some.ensures.cases.0) not.0 not.1

pub returns-clause-rule : goal.returns-clause-rule
returns-clause-rule c = λ is.
    no_length c.args.step.now c.in-Some.word.now c.in-Some-2.array c.in-Some.field-0-1.now (rw c.as_slice.ensures at c.in-Some.ensures.cases.0)
    (some_at c.in_ok-array.field-0 c.in-Some-2.array (λ (array : VType). IsArrayFor c.in-Some.word.now array) c.in-Some-2.is c.in_ok-array.ensures.null) (c.goes.ensures.rule is)
