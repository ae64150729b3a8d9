-- The instructions so far are written.
use Rattle.jv_insn.proofs.EncodingLoop.{IsEncoded}
use Rattle.jv_insn.proofs.encoder.encode.Given as goal

abbrev pub invariant-loop-row : goal.invariant-loop-row
invariant-loop-row l = IsEncoded l.fn.pool l.pool l.body.insns l.row-index l.writer
