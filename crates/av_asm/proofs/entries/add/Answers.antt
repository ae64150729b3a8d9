-- What the writer of a pool promises is what adding an item gives.
use Rattle.std.proofs.Common.{ap, Err}
use Rattle.jv_insn.proofs.Placing.{added_is, added_grows, full_is}
use Rattle.av_asm.proofs.entries.add.Goals as goal

pub returns-in-Ok-clause-put : goal.returns-in-Ok-clause-put
returns-in-Ok-clause-put c =
    let e = c.in-Ok.ensures in
    added_is c.args.item c.args.pool.now c.add.new.self c.in-Ok.index c.requires e.first e.kept e.grown e.within

pub returns-in-Ok-clause-grown : goal.returns-in-Ok-clause-grown
returns-in-Ok-clause-grown c =
    let e = c.in-Ok.ensures in
    added_grows c.args.item c.args.pool.now c.add.new.self c.in-Ok.index c.requires e.kept e.grown

pub returns-in-Err-PoolFull-clause-put : goal.returns-in-Err-PoolFull-clause-put
returns-in-Err-PoolFull-clause-put c =
    let full = c.in-Err-PoolFull.ensures.full (ap Err c.in-Err-PoolFull.field-0-is) in
    full_is c.args.item c.args.pool.now c.requires full.0 full.1
