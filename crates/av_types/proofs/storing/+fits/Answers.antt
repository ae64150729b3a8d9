use Rattle.std.proofs.Common.{ap}
use Rattle.av_types.proofs.Types.{array_fits, is_array, lib_fits, no_fit}
use Rattle.av_types.proofs.storing.+fits.Goals as goal

pub returns-then-sub : goal.returns-then-sub
returns-then-sub t c =
    let arm = c.in-Lib-Lib in
    lib_fits c.args.world.now c.args.t.now c.args.item.now arm.low arm.item_low arm.ifs arm.item_ifs c.has_all.result arm.is-0 arm.is-1
    (c.sub.ensures.exact.0 c.if-sub.true) (rw (c.as_slice.ensures, c.as_slice-then-sub.ensures) at c.has_all.ensures)

pub returns-in-Array-Array : goal.returns-in-Array-Array
returns-in-Array-Array t c =
    let arm = c.in-Array-Array in
    array_fits c.args.world.now c.args.t.now arm.own_item c.get-own.result.now c.args.item.now arm.inner_item c.get-inner.result.now c.fits.result
    arm.is-0 arm.is-1 c.get-own.ensures c.get-inner.ensures c.fits.ensures

pub returns-in-Class-Array : goal.returns-in-Class-Array
returns-in-Class-Array t c = no_fit c.args.world.now c.args.t.now c.args.item.now c.in-Class-Array.field-0-1 c.in-Class-Array.is-1 (ap is_array c.in-Class-Array.is-0)

pub returns-in-Lib-Array : goal.returns-in-Lib-Array
returns-in-Lib-Array t c = no_fit c.args.world.now c.args.t.now c.args.item.now c.in-Lib-Array.field-0-1 c.in-Lib-Array.is-1 (ap is_array c.in-Lib-Array.is-0)

pub returns-in-Prim-Array : goal.returns-in-Prim-Array
returns-in-Prim-Array t c = no_fit c.args.world.now c.args.t.now c.args.item.now c.in-Prim-Array.field-0-1 c.in-Prim-Array.is-1 (ap is_array c.in-Prim-Array.is-0)
