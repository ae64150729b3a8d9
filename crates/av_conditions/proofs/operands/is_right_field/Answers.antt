use Rattle.jv_types.specs.declared.ids.FieldId.{FieldId}
use Rattle.jv_resolve.specs.Resolving.{ResolvesField}
use Rattle.jv_resolve.proofs.Tests.{never, none_at, some_at}
use Rattle.av_conditions.specs.RightReferences.{IsRightField}
use Rattle.av_conditions.proofs.RightKinds.{field_right, field_wrong}
use Rattle.av_conditions.proofs.operands.is_right_field.Goals as goal

pub returns-in_default : goal.returns-in_default
returns-in_default c =
    never (IsRightField c.args.world.now c.args.op c.args.r.now)
    (field_wrong c.args.world.now c.args.op c.args.r.now
    (none_at c.in_ok-f.field-0 ((f : FieldId) → ResolvesField c.args.world.now c.args.r.now f → ⊥) c.in_default.is c.in_ok-f.ensures.none))

pub returns : goal.returns
returns c =
    field_right c.args.world.now c.args.op c.args.r.now c.in-Some.f c.field_flags-flags.result c.is_static_access.result c.is_static.result c.agrees.result c.field_flags-flags.ensures.world
    (some_at c.in_ok-f.field-0 c.in-Some.f (λ (f : FieldId). ResolvesField c.args.world.now c.args.r.now f) c.in-Some.is c.in_ok-f.ensures.found)
    c.field_flags-flags.ensures.flags c.is_static_access.ensures c.is_static.ensures c.agrees.ensures
