use Rattle.std.proofs.Common.{◌≡◌, [], length, ap, arith}
use Rattle.std.proofs.lemmas.Bool.Decides.{nat_tests}
use Rattle.jv_desc.proofs.Agreement.{field_as_read, field_trailing}
use Rattle.jv_desc.proofs.Fronts.{same_refusal}
use Rattle.jv_desc.proofs.types_read.field_desc.Goals as goal

pub returns-else-is_empty-clause-bad : goal.returns-else-is_empty-clause-bad
returns-else-is_empty-clause-bad c =
    let rest = c.in-Ok.rest.now in
    let some : rest ≡ [] → ⊥ = λ e. let n : length rest ≡ 0 = ap length e in grind (arith, nat_tests) in
    λ _. field_trailing c.args.bytes.now c.in-Ok.desc rest c.in-Ok.ensures.found some

pub returns-in-Err-clause-bad : goal.returns-in-Err-clause-bad
returns-in-Err-clause-bad c =
    λ bad d text. c.in-Err.ensures.bad (same_refusal c.in-Err.e bad) d [] (field_as_read c.args.bytes.now d text)
