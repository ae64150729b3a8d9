use Rattle.jv_verify.proofs.Stepping.{leaves_nothing}
use Rattle.jv_verify.proofs.forced.left_by.Goals as goal

pub returns-in-Err-Rule : goal.returns-in-Err-Rule
returns-in-Err-Rule c =
    leaves_nothing c.args.world.now c.args.method c.args.body.now c.args.maps.now c.args.pc c.args.insn.now c.args.here.now c.in-Some.frame c.in-Some.is (rw c.in-Err-Rule.field-0-is at c.in-Err-Rule.ensures)
