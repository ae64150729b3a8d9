-- What an index names goes by the form.
use Rattle.std.proofs.Common.{inl, inr}
use Rattle.jv_insn.proofs.operands.named_arg.Goals as goal

pub returns-in-Load1 : goal.returns-in-Load1
returns-in-Load1 c = elim c.in-Load1.is [ inl e ↦ rw e c.load_arg.ensures | inr e ↦ rw e c.load_arg.ensures ]

pub returns-in-LoadTwo : goal.returns-in-LoadTwo
returns-in-LoadTwo c = rw c.in-LoadTwo.is c.load_arg-in-LoadTwo.ensures

pub returns-in-Class : goal.returns-in-Class
returns-in-Class c = rw c.in-Class.is c.class_arg.ensures

pub returns-in-Field : goal.returns-in-Field
returns-in-Field c = rw c.in-Field.is c.field_arg.ensures

pub returns-in-Method : goal.returns-in-Method
returns-in-Method c = rw c.in-Method.is c.method_arg.ensures
