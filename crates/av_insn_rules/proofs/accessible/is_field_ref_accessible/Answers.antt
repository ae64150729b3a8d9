use Rattle.jv_types.specs.declared.ids.FieldId.{FieldId}
use Rattle.jv_resolve.specs.Access.{IsFieldAccessible}
use Rattle.jv_resolve.specs.Resolving.{ResolvesField}
use Rattle.av_insn_rules.specs.InsnRules.{IsNameAccessible}
use Rattle.av_insn_rules.proofs.Accessing.{both_ok}
use Rattle.av_insn_rules.proofs.accessible.is_field_ref_accessible.Goals as goal

pub returns : goal.returns
returns c =
    both_ok c.is_found_field_accessible.result (IsNameAccessible c.args.world.now c.args.from.number c.args.r.now.class)
    ((f : FieldId) → ResolvesField c.args.world.now c.args.r.now f → IsFieldAccessible c.args.world.now c.args.from.number c.args.r.now f)
    (c.is_name_accessible.ensures.0 c.if-not-is_name_accessible.false) c.is_found_field_accessible.ensures
