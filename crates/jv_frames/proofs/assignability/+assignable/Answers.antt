use Rattle.std.proofs.Common.{arith}
use Rattle.jv_frames.proofs.Arrays.{to_Top, items_to_items, null_to_items, to_other}
use Rattle.jv_frames.proofs.assignability.+assignable.Goals as goal

pub returns-in-Top : goal.returns-in-Top
returns-in-Top t c = to_Top c.args.world.now c.args.a.now c.args.b.now c.in-Top.is

pub returns-in-Array-a : goal.returns-in-Array-a
returns-in-Array-a t c =
    items_to_items c.args.world.now c.args.a.now c.args.b.now c.in-Array-a.item c.in-Array.other c.get.result.now c.get-in-Array-a.result.now c.assignable.result
    c.in-Array-a.is c.in-Array.is c.get.ensures c.get-in-Array-a.ensures c.assignable.ensures

pub returns-in-Null : goal.returns-in-Null
returns-in-Null t c = null_to_items c.args.world.now c.args.a.now c.args.b.now c.in-Array.other c.in-Null.is c.in-Array.is

pub returns-in-Integer : goal.returns-in-Integer
returns-in-Integer t c = to_other c.args.world.now c.args.a.now c.args.b.now c.is.result (grind arith) (grind arith) c.is.ensures
