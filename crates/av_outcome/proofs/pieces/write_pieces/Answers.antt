use Rattle.std.proofs.Common.{◌∙◌}
use Rattle.std.proofs.lemmas.Result.{err_from_is_err_and}
use Rattle.av_outcome.specs.Pieces.{piece_text}
use Rattle.av_outcome.proofs.FlatMaps.{part_taken, part_cut_off}
use Rattle.av_outcome.proofs.Sinks.{from_handed}
use Rattle.av_outcome.proofs.pieces.write_pieces.Goals as goal

pub returns-in_err-write_piece-clause-handed : goal.returns-in_err-write_piece-clause-handed
returns-in_err-write_piece-clause-handed g c =
    let p = err_from_is_err_and c.from_residual.result c.from_residual.ensures.1 in
    rw (p.1, p.2) (part_cut_off piece_text c.args.pieces.now c.loop-piece.piece-index _ c.loop-piece-test.true _ _ _ c.loop-piece.invariant.0
    c.in_err-write_piece.field-0.0 c.in_err-write_piece.ensures.handed)

pub loop-piece-preserved : goal.loop-piece-preserved
loop-piece-preserved g c = (
  part_taken piece_text c.args.pieces.now c.loop-piece.piece-index _ c.loop-piece-test.true _ _ _ c.loop-piece.invariant.0
      (from_handed _ _ _ _ c.in_ok-write_piece.ensures.handed),
  c.in_ok-write_piece.ensures.no_blanks ∙ c.loop-piece.invariant.1,
)
