use Rattle.std.proofs.Common.{◌≡◌, [], length, ap, arith}
use Rattle.std.proofs.lemmas.Bool.Decides.{nat_tests}
use Rattle.std.proofs.lemmas.List.{nil_from_length}
use Rattle.jv_bytes.proofs.Utf8Laws.{read_stuck, read_more, read_all}
use Rattle.jv_bytes.proofs.utf8.units_of.Goals as goal

pub returns-in_default-clause-bad : goal.returns-in_default-clause-bad
returns-in_default-clause-bad c =
    let rest = c.loop-rest.rest.now in
    let some : rest ≡ [] → ⊥ = λ e. let n : length rest ≡ 0 = ap length e in grind (arith, nat_tests) in
    λ _. read_stuck c.args.bytes.now c.loop-rest.units.items rest c.loop-rest.invariant some c.in_default.ensures.none

pub loop-rest-preserved : goal.loop-rest-preserved
loop-rest-preserved c =
    rw c.in_ok-push.ensures.items (read_more c.args.bytes.now c.loop-rest.units.items c.loop-rest.rest.now _ _ c.loop-rest.invariant c.in-Some.ensures.found)

pub returns-clause-found : goal.returns-clause-found
returns-clause-found c =
    let rest = c.loop-rest.rest.now in
    let none : length rest ≡ 0 = grind (arith, nat_tests) in
    read_all c.args.bytes.now c.loop-rest.units.items rest c.loop-rest.invariant (nil_from_length rest none)
