use Rattle.std.proofs.Common.{sym, subst, IsTrue}
use Rattle.std.specs.Prelude.{◌↔◌}
use Rattle.jv_types.specs.declared.desc.RefType.{RefType}
use Rattle.av_insn_rules.specs.InsnRules.{IsTypeAccessible}
use Rattle.av_insn_rules.proofs.Accessing.{type_by_item}
use Rattle.av_insn_rules.proofs.accessible.+is_type_accessible.Goals as goal

pub returns-in-Class : goal.returns-in-Class
returns-in-Class t c =
    subst (λ (x : RefType). IsTrue c.is_name_accessible.result ↔ IsTypeAccessible c.args.world.now c.args.from.number x) (sym c.in-Class.is) c.is_name_accessible.ensures

pub returns-in-Array : goal.returns-in-Array
returns-in-Array t c =
    type_by_item c.args.world.now c.args.from.number c.args.type_of.now c.in-Array.item c.get.result.now c.is_type_accessible.result c.in-Array.is c.get.ensures c.is_type_accessible.ensures
