use Rattle.std.proofs.Common.{ℕ}
use Rattle.std.proofs.lemmas.Option.{slice_get_within}
use Rattle.std.proofs.lemmas.Result.{on_ok_weaker}
use Rattle.jv_types.specs.declared.ids.FieldId.{FieldId}
use Rattle.jv_resolve.proofs.Tests.{none_at, some_at}
use Rattle.jv_resolve.specs.Resolving.{ResolvesField}
use Rattle.av_tables.specs.Steps.{known}
use Rattle.av_forcing.specs.declared.fact.RoundFact.TheVariants.{Field}
use Rattle.av_round.proofs.Finding.{finds_no_number, finds_nothing, finds_number}
use Rattle.av_round.proofs.references.push_field.Goals as goal

pub returns-in_default : goal.returns-in_default
returns-in_default c =
    finds_nothing c.args.world.now (known c.args.classes.now) (λ (f : FieldId). f.class.number) (λ (f : FieldId). f.index) (λ (d i : ℕ). Field d i) (ResolvesField c.args.world.now c.args.r.now) c.args.out.now.items
    (none_at c.in_ok-f.field-0 ((f : FieldId) → ResolvesField c.args.world.now c.args.r.now f → ⊥) c.in_default.is c.in_ok-f.ensures.none)

pub shape-requires : goal.shape-requires
shape-requires c =
    let resolves = some_at c.in_ok-f.field-0 c.in-Some.f (λ (f : FieldId). ResolvesField c.args.world.now c.args.r.now f) c.in-Some.is c.in_ok-f.ensures.found in
    slice_get_within c.args.world.now c.in-Some.f.class.number resolves.declared.class resolves.declared.of_class

pub returns-in-None : goal.returns-in-None
returns-in-None c =
    finds_no_number c.args.world.now (known c.args.classes.now) (λ (f : FieldId). f.class.number) (λ (f : FieldId). f.index) (λ (d i : ℕ). Field d i) (ResolvesField c.args.world.now c.args.r.now)
    (λ f g p q. c.references_resolve_to_one.ensures.field c.args.world.now c.args.r.now f g c.shape.ensures.world p q) c.in-Some.f
    (some_at c.in_ok-f.field-0 c.in-Some.f (λ (f : FieldId). ResolvesField c.args.world.now c.args.r.now f) c.in-Some.is c.in_ok-f.ensures.found) c.shape.result.now c.shape.ensures.shape c.args.out.now.items
    (rw c.as_slice.ensures.value at c.in-None.ensures.none)

pub returns-in-Some-place_of : goal.returns-in-Some-place_of
returns-in-Some-place_of c =
    on_ok_weaker c.push_fact.result
    (finds_number c.args.world.now (known c.args.classes.now) (λ (f : FieldId). f.class.number) (λ (f : FieldId). f.index) (λ (d i : ℕ). Field d i) (ResolvesField c.args.world.now c.args.r.now)
    (λ f g p q. c.references_resolve_to_one.ensures.field c.args.world.now c.args.r.now f g c.shape.ensures.world p q) c.in-Some.f
    (some_at c.in_ok-f.field-0 c.in-Some.f (λ (f : FieldId). ResolvesField c.args.world.now c.args.r.now f) c.in-Some.is c.in_ok-f.ensures.found) c.shape.result.now c.shape.ensures.shape
    c.requires c.in-Some-place_of.class c.args.out.now.items c.push_fact.new.out.items (rw c.as_slice.ensures.value at c.in-Some-place_of.ensures.found))
    c.push_fact.ensures.ok
