use Rattle.std.proofs.Common.{rules}
use Rattle.jv_frames.proofs.Arrays.{null_to_prim_array, prim_array_to_prim_array}
use Rattle.jv_frames.proofs.assignability.assignable_to_prim_array.Goals as goal

pub returns-in-Null : goal.returns-in-Null
returns-in-Null c = null_to_prim_array c.args.world.now c.args.a.now c.args.of c.in-Null.is

pub returns-in-PrimArray : goal.returns-in-PrimArray
returns-in-PrimArray c = prim_array_to_prim_array c.args.world.now c.args.a.now c.in-PrimArray.own c.args.of c.eq.result c.in-PrimArray.is (search rules)
