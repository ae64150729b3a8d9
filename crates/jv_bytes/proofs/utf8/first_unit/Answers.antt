use Rattle.std.proofs.lemmas.List.{nil_from_length}
use Rattle.jv_bytes.proofs.Utf8Laws.{begins_1, begins_2, begins_3, none_2, none_3}
use Rattle.jv_bytes.proofs.utf8.first_unit.Goals as goal

pub returns-in-Some-clause-found : goal.returns-in-Some-clause-found
returns-in-Some-clause-found c =
    begins_1 _ c.in_ok-a.a.now _ _ c.in_ok-a.ensures.cases.0 c.in-Some.ensures.found

pub returns-in-Some-two_bytes-clause-found : goal.returns-in-Some-two_bytes-clause-found
returns-in-Some-two_bytes-clause-found c =
    begins_2 _ c.in_ok-a.a.now c.in_ok-b.b.now _ _ _ c.in_ok-a.ensures.cases.0 c.in_ok-b.ensures.cases.0 c.in-Some-two_bytes.ensures.found

pub returns-in_err-c-clause-none : goal.returns-in_err-c-clause-none
returns-in_err-c-clause-none c =
    rw c.from_residual-in_err-c.ensures (none_2 c.args.bytes.now c.in_ok-a.a.now c.in_ok-b.b.now c.in_ok-a.after_a.now c.in_ok-b.after_b.now c.in_ok-a.ensures.cases.0 c.in_ok-b.ensures.cases.0 (nil_from_length c.in_ok-b.after_b.now c.in_err-c.ensures.cases) c.in_default.ensures.none c.in_default-two_bytes.ensures.none)

pub returns-in_err-unit-clause-none : goal.returns-in_err-unit-clause-none
returns-in_err-unit-clause-none c =
    rw c.from_residual-in_err-unit.ensures (none_3 c.args.bytes.now c.in_ok-a.a.now c.in_ok-b.b.now c.in_ok-c.c.now c.in_ok-a.after_a.now c.in_ok-b.after_b.now c.in_ok-c.after_c.now c.in_ok-a.ensures.cases.0 c.in_ok-b.ensures.cases.0 c.in_ok-c.ensures.cases.0 c.in_default.ensures.none c.in_default-two_bytes.ensures.none c.in_err-unit.ensures.none)

pub returns-clause-found : goal.returns-clause-found
returns-clause-found c =
    begins_3 _ c.in_ok-a.a.now c.in_ok-b.b.now c.in_ok-c.c.now _ _ _ _ c.in_ok-a.ensures.cases.0 c.in_ok-b.ensures.cases.0 c.in_ok-c.ensures.cases.0 c.in_ok-unit.ensures.found
