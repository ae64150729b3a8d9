use Rattle.jv_types.specs.declared.ids.FieldId.{FieldId}
use Rattle.jv_resolve.specs.Resolving.{ResolvesField}
use Rattle.jv_resolve.proofs.Tests.{never, none_at, some_at}
use Rattle.jv_verify_refs.specs.Steps.Parts.{IsOwnField}
use Rattle.jv_verify_refs.proofs.Receiving.{own_field}
use Rattle.jv_verify_refs.proofs.fields.is_own.Goals as goal

pub returns-in-Some : goal.returns-in-Some
returns-in-Some c =
    own_field c.args.step.now.world.now c.args.field.now c.in-Some.declared c.args.step.now.from.number c.is_same_class.result c.shapes-shapes.ensures.world
    (some_at c.in_ok-declared.field-0 c.in-Some.declared (λ (f : FieldId). ResolvesField c.args.step.now.world.now c.args.field.now f) c.in-Some.is c.in_ok-declared.ensures.found)
    c.is_same_class.ensures

pub returns-in-None : goal.returns-in-None
returns-in-None c =
    never (IsOwnField c.args.step.now c.args.field.now) (λ p.
    none_at c.in_ok-declared.field-0 ((f : FieldId) → ResolvesField c.args.step.now.world.now c.args.field.now f → ⊥) c.in-None.is c.in_ok-declared.ensures.none p.0 p.1)
