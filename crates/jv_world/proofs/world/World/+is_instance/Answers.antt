use Rattle.std.proofs.Common.{sym, ◌∙◌}
use Rattle.jv_world.proofs.Arrays.{IsInstanceOf-arrays, IsInstanceOf-no_array, Class-no_array, PrimArray-no_array}
use Rattle.jv_world.proofs.world.World.+is_instance.Goals as goal

pub returns-in-Array-Array : goal.returns-in-Array-Array
returns-in-Array-Array t c =
    let arm = c.in-Array-Array in
    IsInstanceOf-arrays c.args.self.now c.args.t.now c.args.of.now arm.item arm.other c.get.result.now c.get-in-Array-Array.result.now c.is_instance.result
    arm.is-0 arm.is-1 c.get.ensures c.get-in-Array-Array.ensures c.is_instance.ensures

pub returns-in-Class-Array : goal.returns-in-Class-Array
returns-in-Class-Array t c =
    IsInstanceOf-no_array c.args.self.now c.args.t.now c.args.of.now c.in-Class-Array.field-0-1 c.in-Class-Array.is-1
    (λ own e. Class-no_array c.in-Class-Array.field-0-0 own (sym c.in-Class-Array.is-0 ∙ e))

pub returns-in-PrimArray-Array : goal.returns-in-PrimArray-Array
returns-in-PrimArray-Array t c =
    IsInstanceOf-no_array c.args.self.now c.args.t.now c.args.of.now c.in-PrimArray-Array.field-0-1 c.in-PrimArray-Array.is-1
    (λ own e. PrimArray-no_array c.in-PrimArray-Array.field-0-0 own (sym c.in-PrimArray-Array.is-0 ∙ e))
