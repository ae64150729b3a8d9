-- What the writer of a pool promises is what adding an item gives.
use Rattle.std.proofs.Common.{Err, ap}
use Rattle.jv_insn.proofs.Placing.{added_is, full_is}
use Rattle.av_class_files.proofs.entries.add.Goals as goal

pub returns-in-Ok : goal.returns-in-Ok
returns-in-Ok c =
    let e = c.in-Ok.ensures in
    added_is c.args.item c.args.pool.now c.add.new.self c.in-Ok.index c.requires e.first e.kept e.grown e.within

pub returns-in-Err-PoolFull : goal.returns-in-Err-PoolFull
returns-in-Err-PoolFull c =
    let full = c.in-Err-PoolFull.ensures.full (ap Err c.in-Err-PoolFull.field-0-is) in
    full_is c.args.item c.args.pool.now c.requires full.0 full.1
