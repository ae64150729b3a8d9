use Rattle.calls_lines.proofs.first.reporting.fact_line.Goals as goal

pub returns-in-Pt : goal.returns-in-Pt
returns-in-Pt c = rw c.in-Pt.is c.point_line.ensures
