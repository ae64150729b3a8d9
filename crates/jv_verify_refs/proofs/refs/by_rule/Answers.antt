use Rattle.std.proofs.Common.{sym, subst}
use Rattle.jv_typing.specs.declared.rules.RefRule.{RefRule}
use Rattle.jv_verify_refs.specs.Steps.Parts.{HasNoTyping}
use Rattle.jv_verify_refs.proofs.refs.by_rule.Goals as goal

pub returns-in-PushConstant-clause-rule : goal.returns-in-PushConstant-clause-rule
returns-in-PushConstant-clause-rule c = λ is. subst (λ (r : RefRule). HasNoTyping c.args.step.now r) (sym c.in-PushConstant.is) (c.push_constant.ensures.rule is)

pub returns-in-GetStatic-clause-rule : goal.returns-in-GetStatic-clause-rule
returns-in-GetStatic-clause-rule c = λ is. subst (λ (r : RefRule). HasNoTyping c.args.step.now r) (sym c.in-GetStatic.is) (c.get_static.ensures.rule is)

pub returns-in-PutStatic-clause-rule : goal.returns-in-PutStatic-clause-rule
returns-in-PutStatic-clause-rule c = λ is. subst (λ (r : RefRule). HasNoTyping c.args.step.now r) (sym c.in-PutStatic.is) (c.put_static.ensures.rule is)

pub returns-in-GetField-clause-rule : goal.returns-in-GetField-clause-rule
returns-in-GetField-clause-rule c = λ is. subst (λ (r : RefRule). HasNoTyping c.args.step.now r) (sym c.in-GetField.is) (c.get_field.ensures.rule is)

pub returns-in-PutField-clause-rule : goal.returns-in-PutField-clause-rule
returns-in-PutField-clause-rule c = λ is. subst (λ (r : RefRule). HasNoTyping c.args.step.now r) (sym c.in-PutField.is) (c.put_field.ensures.rule is)

pub returns-in-InvokeVirtual-clause-rule : goal.returns-in-InvokeVirtual-clause-rule
returns-in-InvokeVirtual-clause-rule c = λ is. subst (λ (r : RefRule). HasNoTyping c.args.step.now r) (sym c.in-InvokeVirtual.is) (c.invoke_virtual.ensures.rule is)

pub returns-in-InvokeSpecial-clause-rule : goal.returns-in-InvokeSpecial-clause-rule
returns-in-InvokeSpecial-clause-rule c = λ is. subst (λ (r : RefRule). HasNoTyping c.args.step.now r) (sym c.in-InvokeSpecial.is) (c.invoke_special.ensures.rule is)

pub returns-in-InvokeStatic-clause-rule : goal.returns-in-InvokeStatic-clause-rule
returns-in-InvokeStatic-clause-rule c = λ is. subst (λ (r : RefRule). HasNoTyping c.args.step.now r) (sym c.in-InvokeStatic.is) (c.invoke_static.ensures.rule is)

pub returns-in-InvokeInterface-clause-rule : goal.returns-in-InvokeInterface-clause-rule
returns-in-InvokeInterface-clause-rule c = λ is. subst (λ (r : RefRule). HasNoTyping c.args.step.now r) (sym c.in-InvokeInterface.is) (c.invoke_interface.ensures.rule is)

pub returns-in-New-clause-rule : goal.returns-in-New-clause-rule
returns-in-New-clause-rule c = λ is. subst (λ (r : RefRule). HasNoTyping c.args.step.now r) (sym c.in-New.is) (c.make.ensures.rule is)

pub returns-in-NewArray-clause-rule : goal.returns-in-NewArray-clause-rule
returns-in-NewArray-clause-rule c = λ is. subst (λ (r : RefRule). HasNoTyping c.args.step.now r) (sym c.in-NewArray.is) (c.new_array.ensures.rule is)

pub returns-in-NewRefArray-clause-rule : goal.returns-in-NewRefArray-clause-rule
returns-in-NewRefArray-clause-rule c = λ is. subst (λ (r : RefRule). HasNoTyping c.args.step.now r) (sym c.in-NewRefArray.is) (c.new_ref_array.ensures.rule is)

pub returns-in-ArrayLength-clause-rule : goal.returns-in-ArrayLength-clause-rule
returns-in-ArrayLength-clause-rule c = λ is. subst (λ (r : RefRule). HasNoTyping c.args.step.now r) (sym c.in-ArrayLength.is) (c.array_length.ensures.rule is)

pub returns-in-CheckCast-clause-rule : goal.returns-in-CheckCast-clause-rule
returns-in-CheckCast-clause-rule c = λ is. subst (λ (r : RefRule). HasNoTyping c.args.step.now r) (sym c.in-CheckCast.is) (c.check_cast.ensures.rule is)

pub returns-in-InstanceOf-clause-rule : goal.returns-in-InstanceOf-clause-rule
returns-in-InstanceOf-clause-rule c = λ is. subst (λ (r : RefRule). HasNoTyping c.args.step.now r) (sym c.in-InstanceOf.is) (c.instance_of.ensures.rule is)

pub returns-in-NewMultiArray-clause-rule : goal.returns-in-NewMultiArray-clause-rule
returns-in-NewMultiArray-clause-rule c = λ is. subst (λ (r : RefRule). HasNoTyping c.args.step.now r) (sym c.in-NewMultiArray.is) (c.new_multi_array.ensures.rule is)
