use Rattle.std.proofs.Common.{subst, sym, IsTrue, IfOk}
use Rattle.std.specs.Prelude.{◌↔◌}
use Rattle.jv_types.specs.declared.rule.Rule.{Rule}
use Rattle.av_insn_rules.specs.InsnRules.{Keeps}
use Rattle.av_insn_rules.proofs.keeping.keeps.Goals as goal

pub returns-in-Unresolved : goal.returns-in-Unresolved
returns-in-Unresolved c =
    subst (λ (r : Rule). IfOk c.is_resolved.result (λ kept. IsTrue kept ↔ Keeps c.args.world.now c.args.from.number c.args.major r c.args.insn.now)) (sym c.in-Unresolved.is) c.is_resolved.ensures
