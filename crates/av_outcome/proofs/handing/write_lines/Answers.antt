use Rattle.std.proofs.Common.{◌∙◌}
use Rattle.std.proofs.lemmas.Result.{err_from_is_err_and}
use Rattle.av_outcome.specs.Handing.{text_of_lines}
use Rattle.av_outcome.proofs.Sinks.{line_more, line_cut, from_handed}
use Rattle.av_outcome.proofs.handing.write_lines.Goals as goal

pub returns-in_err-write_line-clause-handed : goal.returns-in_err-write_line-clause-handed
returns-in_err-write_line-clause-handed g c =
    let p = err_from_is_err_and c.from_residual.result c.from_residual.ensures.1 in
    rw (p.1, p.2) (line_cut c.in_err-write_line.field-0.0 _ _ _ (text_of_lines c.args.lines.keys) c.in-Some.line c.loop-line.left.keys c.pop_first.new.self.keys
    c.in-Some.ensures.removal c.loop-line.invariant.0 (rw c.as_slice.ensures at c.in_err-write_line.ensures.handed))

pub loop-line-preserved : goal.loop-line-preserved
loop-line-preserved g c = (
  line_more _ _ _ (text_of_lines c.args.lines.keys) c.in-Some.line c.loop-line.left.keys c.pop_first.new.self.keys
      c.in-Some.ensures.removal c.loop-line.invariant.0 (from_handed _ _ _ _ (rw c.as_slice.ensures at c.in_ok-write_line.ensures.handed)),
  c.in_ok-write_line.ensures.no_blanks ∙ c.loop-line.invariant.1,
)
