use Rattle.std.proofs.Common.{take, arith}
use Rattle.std.proofs.lemmas.List.{take_more}
use Rattle.jv_desc.proofs.Fronts.{no_semicolon-push}
use Rattle.jv_desc.proofs.reading.before_semicolon.Goals as goal

pub loop-i-preserved : goal.loop-i-preserved
loop-i-preserved c =
    rw (take_more c.args.bytes.now c.loop-i.i 0 (omega arith)) (no_semicolon-push (take c.loop-i.i c.args.bytes.now) _ c.loop-i.invariant c.if-byte-eq59.false)
