use Rattle.std.proofs.Common.{sym}
use Rattle.jv_verify.specs.Steps.Checking.{untyped}
use Rattle.jv_verify.proofs.Stepping.{typed_decides, handed_decides}
use Rattle.jv_verify.proofs.checks.is_typed.Goals as goal

pub returns-in-Some-handed_on : goal.returns-in-Some-handed_on
returns-in-Some-handed_on c =
    handed_decides c.args.world.now c.args.method c.args.body.now c.args.maps.now c.args.rows.now c.args.row.now c.in-Some.frame.now c.in-Some-handed_on.next c.is_handed_right.result c.requires.forced (sym c.in-Some.ensures.value) c.requires.stands
    c.in-Some-handed_on.ensures.found c.is_handed_right.ensures

pub returns-in-Ok : goal.returns-in-Ok
returns-in-Ok c =
    typed_decides c.args.world.now c.args.method c.args.body.now c.args.rows.now c.args.row.now c.in-Some.frame.now c.in-Ok.after c.fits_on.result (sym c.in-Some.ensures.value) c.in-Ok.ensures c.fits_on.ensures

pub returns-in-Err-Rule : goal.returns-in-Err-Rule
returns-in-Err-Rule c =
    untyped c.in-Some.frame.now (sym c.in-Some.ensures.value) (rw c.in-Err-Rule.field-0-is at c.in-Err-Rule.ensures)
