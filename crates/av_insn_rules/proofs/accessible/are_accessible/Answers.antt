use Rattle.std.proofs.Common.{subst, sym, IsTrue, IfOk}
use Rattle.std.specs.Prelude.{◌↔◌}
use Rattle.jv_types.specs.declared.instruction.Arg.{Arg}
use Rattle.av_insn_rules.specs.InsnRules.{AreAccessible}
use Rattle.av_insn_rules.proofs.accessible.are_accessible.Goals as goal

pub returns-in-Field : goal.returns-in-Field
returns-in-Field c =
    subst (λ (a : Arg). IfOk c.is_field_ref_accessible.result (λ allowed. IsTrue allowed ↔ AreAccessible c.args.world.now c.args.from.number a)) (sym c.in-Field.is) c.is_field_ref_accessible.ensures
