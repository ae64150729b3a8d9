-- The handlers so far, or the least offset of an entry that is none.
use Rattle.std.proofs.Common.{take}
use Rattle.jv_insn.specs.Steps.Rows.{HandlersSoFar}
use Rattle.jv_insn.proofs.handlers.handlers_of.Given as goal

abbrev pub invariant-loop-raw : goal.invariant-loop-raw
invariant-loop-raw l = HandlersSoFar l.pool l.length l.rows (take l.raw-index l.raws) l.handlers.items l.least
