use Rattle.jv_frames.specs.Maps.{object}
use Rattle.jv_frames.proofs.Determined.{object_none}
use Rattle.jv_frames.proofs.map_types.numbered_type.Goals as goal

pub returns-in_ok-ref_vtype-in-Ok : goal.returns-in_ok-ref_vtype-in-Ok
returns-in_ok-ref_vtype-in-Ok c = object c.in-Ok.of c.in-7.is c.in-Ok.ensures c.in_ok-ref_vtype-in-Ok.ensures

pub returns-in-Err : goal.returns-in-Err
returns-in-Err c = object_none c.args.pool.now c.args.t.now c.in-Err.e c.in-7.is c.in-Err.ensures
