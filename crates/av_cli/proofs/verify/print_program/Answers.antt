use Rattle.std.proofs.Common.{refl, inr}
use Rattle.av_outcome.specs.Handing.{text_of_lines}
use Rattle.av_cli.proofs.verify.print_program.Goals as goal

pub returns-in-Err-Failed-clause-prints : goal.returns-in-Err-Failed-clause-prints
returns-in-Err-Failed-clause-prints g c =
    let h = rw c.in-Err-Failed.field-0-is at c.in-Err-Failed.ensures.handed in
    (text_of_lines c.in-Ok.lines.keys, (c.in-Ok.lines.keys, c.in-Ok.ensures, refl), h.front, h.failed)

pub returns-in-Err-Memory-clause-prints : goal.returns-in-Err-Memory-clause-prints
returns-in-Err-Memory-clause-prints g c =
    let h = rw c.in-Err-Memory.field-0-is at c.in-Err-Memory.ensures.handed in
    inr (text_of_lines c.in-Ok.lines.keys, (c.in-Ok.lines.keys, c.in-Ok.ensures, refl), h.front)
