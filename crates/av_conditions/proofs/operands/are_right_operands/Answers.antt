use Rattle.std.proofs.Common.{subst, sym, IsTrue, IfOk}
use Rattle.std.specs.Prelude.{◌↔◌}
use Rattle.jv_types.specs.declared.instruction.Arg.{Arg}
use Rattle.av_conditions.specs.RightReferences.{AreRightOperands}
use Rattle.av_conditions.proofs.operands.are_right_operands.Goals as goal

pub returns-in-Field : goal.returns-in-Field
returns-in-Field c =
    subst (λ (a : Arg). IfOk c.is_right_field.result (λ right. IsTrue right ↔ AreRightOperands c.args.world.now c.args.op a)) (sym c.in-Field.is) c.is_right_field.ensures

pub returns-in-Method : goal.returns-in-Method
returns-in-Method c =
    subst (λ (a : Arg). IfOk c.is_right_call.result (λ right. IsTrue right ↔ AreRightOperands c.args.world.now c.args.op a)) (sym c.in-Method.is) c.is_right_call.ensures
