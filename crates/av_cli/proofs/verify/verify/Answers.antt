use Rattle.av_cli.proofs.Verifying.{stopped, printed}
use Rattle.av_cli.proofs.verify.verify.Goals as goal

pub returns-in-Err-clause-ends : goal.returns-in-Err-clause-ends
returns-in-Err-clause-ends g c =
    let A = g.A.Acceptor in
    rw c.of_stop.ensures (stopped A.FirstStop A.ProgramOf A.Collects A.IsAccepted _ _ _ _ _ c.in-Err.stop
    c.in-Err.ensures.tells c.in-Err.ensures.exact c.in-Err.ensures.ends)

pub returns-clause-ends : goal.returns-clause-ends
returns-clause-ends g c =
    let A = g.A.Acceptor in
    printed A.FirstStop A.ProgramOf A.Collects A.IsAccepted _ _ _ c.in-Ok.program c.in-Ok.ensures.accepted c.in-Ok.ensures.tells
    c.in-Ok.ensures.exact c.in-Ok.ensures.ends.read_faults c.print_program.result c.print_program.ensures.prints
