use Rattle.jv_types.specs.declared.ids.FieldId.{FieldId}
use Rattle.jv_resolve.specs.Access.{IsFieldAccessible}
use Rattle.jv_resolve.specs.Resolving.{ResolvesField}
use Rattle.jv_resolve.proofs.Tests.{none_at, some_at, yes}
use Rattle.av_insn_rules.proofs.Accessing.{field_at_one}
use Rattle.av_insn_rules.proofs.accessible.is_found_field_accessible.Goals as goal

pub returns-in-None : goal.returns-in-None
returns-in-None c =
    yes ((f : FieldId) → ResolvesField c.args.world.now c.args.r.now f → IsFieldAccessible c.args.world.now c.args.from.number c.args.r.now f)
    (λ (f : FieldId) (found : ResolvesField c.args.world.now c.args.r.now f).
    absurd (none_at c.in_ok-resolved_field.field-0 ((f : FieldId) → ResolvesField c.args.world.now c.args.r.now f → ⊥) c.in-None.is c.in_ok-resolved_field.ensures.none f found))

pub returns-in-Some : goal.returns-in-Some
returns-in-Some c =
    field_at_one c.args.world.now c.args.from.number c.args.r.now c.in-Some.f c.is_field_accessible.result c.is_a_world.ensures
    (some_at c.in_ok-resolved_field.field-0 c.in-Some.f (λ (f : FieldId). ResolvesField c.args.world.now c.args.r.now f) c.in-Some.is c.in_ok-resolved_field.ensures.found)
    c.is_field_accessible.ensures.exact
