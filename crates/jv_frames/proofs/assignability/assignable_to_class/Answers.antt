use Rattle.std.proofs.Common.{IsTrue, ap, sym, subst}
use Rattle.jv_types.specs.declared.frames.VType.{VType}
use Rattle.jv_frames.specs.Types.{is_array}
use Rattle.jv_frames.proofs.Arrays.{null_to_class, array_to_class, class_to_class, is_array-Array}
use Rattle.jv_frames.proofs.assignability.assignable_to_class.Goals as goal

pub returns-in-Null : goal.returns-in-Null
returns-in-Null c = null_to_class c.args.world.now c.args.a.now c.args.of.now c.in-Null.is

pub returns-in-Class : goal.returns-in-Class
returns-in-Class c =
    class_to_class c.args.world.now c.args.a.now c.in-Class.name c.args.of.now c.is_class_assignable.result c.in-Class.is c.is_class_assignable.ensures

pub returns-in-PrimArray : goal.returns-in-PrimArray
returns-in-PrimArray c =
    array_to_class c.args.world.now c.args.a.now c.args.of.now c.is_array_super.result (ap is_array c.in-PrimArray.is) c.is_array_super.ensures

pub returns-in-Array : goal.returns-in-Array
returns-in-Array c =
    array_to_class c.args.world.now c.args.a.now c.args.of.now c.is_array_super-in-Array.result
    (subst (λ (x : VType). IsTrue (is_array x)) (sym c.in-Array.is) (is_array-Array c.in-Array.field-0)) c.is_array_super-in-Array.ensures
