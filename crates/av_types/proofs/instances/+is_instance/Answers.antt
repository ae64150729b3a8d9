use Rattle.std.proofs.Common.{ap}
use Rattle.av_types.proofs.Types.{array_instances, is_array, no_instance, prim_instances}
use Rattle.av_types.proofs.instances.+is_instance.Goals as goal

pub returns-in-Array-PrimArray : goal.returns-in-Array-PrimArray
returns-in-Array-PrimArray t c =
    let arm = c.in-Array-PrimArray in
    prim_instances c.args.world.now c.args.t.now arm.item c.get.result.now c.args.of.now arm.prim c.is_prim.result arm.is-0 c.get.ensures arm.is-1 c.is_prim.ensures

pub returns-in-Array-Array : goal.returns-in-Array-Array
returns-in-Array-Array t c =
    let arm = c.in-Array-Array in
    array_instances c.args.world.now c.args.t.now arm.item c.get-own.result.now c.args.of.now arm.other c.get-in-Array-Array.result.now c.is_instance.result
    arm.is-0 arm.is-1 c.get-own.ensures c.get-in-Array-Array.ensures c.is_instance.ensures

pub returns-in-Class-Array : goal.returns-in-Class-Array
returns-in-Class-Array t c =
    no_instance c.args.world.now c.args.t.now c.args.of.now c.in-Class-Array.field-0-1 c.in-Class-Array.is-1 (ap is_array c.in-Class-Array.is-0)

pub returns-in-Lib-Array : goal.returns-in-Lib-Array
returns-in-Lib-Array t c =
    no_instance c.args.world.now c.args.t.now c.args.of.now c.in-Lib-Array.field-0-1 c.in-Lib-Array.is-1 (ap is_array c.in-Lib-Array.is-0)

pub returns-in-Prim-Array : goal.returns-in-Prim-Array
returns-in-Prim-Array t c =
    no_instance c.args.world.now c.args.t.now c.args.of.now c.in-Prim-Array.field-0-1 c.in-Prim-Array.is-1 (ap is_array c.in-Prim-Array.is-0)
