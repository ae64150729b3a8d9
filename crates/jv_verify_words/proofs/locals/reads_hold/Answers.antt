use Rattle.std.proofs.Common.{◌∙◌, sym}
use Rattle.jv_verify_words.proofs.ReadLocals.{tells_load, tells_iinc}
use Rattle.jv_verify_words.proofs.locals.reads_hold.Goals as goal

pub returns-then-is_load : goal.returns-then-is_load
returns-then-is_load c =
    tells_load c.args.locals.now c.args.insn.now.op c.args.insn.now.arg c.args.gives.now c.hold_from.result (sym c.is_load.ensures ∙ c.if-is_load.true) c.requires (rw c.local_of-local.ensures at c.hold_from.ensures)

pub returns-then-insn : goal.returns-then-insn
returns-then-insn c =
    tells_iinc c.args.locals.now c.args.insn.now.op c.args.insn.now.arg c.holds_from.result c.if-insn.true (rw c.local_of-local.ensures at c.holds_from.ensures)
