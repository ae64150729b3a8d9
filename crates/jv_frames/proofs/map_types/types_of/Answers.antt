use Rattle.jv_attr.specs.declared.frame.MapType.{MapType}
use Rattle.jv_frames.specs.Maps.{IsTypeOf}
use Rattle.jv_frames.proofs.Determined.{list_none}
use Rattle.jv_frames.proofs.map_types.types_of.Goals as goal
use Rattle.jv_lists.proofs.Zips.{zip_more}

-- any written type
any : MapType
any = record { tag = 0; arg = 0 }

pub returns-in-Err : goal.returns-in-Err
unfolding any
returns-in-Err c = list_none (IsTypeOf c.args.pool.now) c.args.written.now c.loop-t.t-index any c.in-Err.e c.loop-t-test.true c.in-Err.ensures

pub loop-t-preserved : goal.loop-t-preserved
unfolding any
loop-t-preserved c =
    rw c.in_ok-push-in-Ok.ensures.items (zip_more (IsTypeOf c.args.pool.now) c.args.written.now c.loop-t.types.items c.loop-t.t-index any c.in-Ok.of c.loop-t-test.true c.loop-t.invariant c.in-Ok.ensures)
