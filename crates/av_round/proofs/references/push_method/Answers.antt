use Rattle.std.proofs.Common.{ℕ}
use Rattle.std.proofs.lemmas.Option.{slice_get_within}
use Rattle.std.proofs.lemmas.Result.{on_ok_weaker}
use Rattle.jv_types.specs.declared.ids.MethodId.{MethodId}
use Rattle.jv_resolve.proofs.Tests.{none_at, some_at}
use Rattle.av_conditions.specs.Members.{ResolvesCall}
use Rattle.av_round.proofs.Paths.{call_declares}
use Rattle.av_tables.specs.Steps.{known}
use Rattle.av_forcing.specs.declared.fact.RoundFact.TheVariants.{Method}
use Rattle.av_round.proofs.Finding.{one_call, finds_no_number, finds_nothing, finds_number}
use Rattle.av_round.proofs.references.push_method.Goals as goal

pub returns-in_default : goal.returns-in_default
returns-in_default c =
    finds_nothing c.args.world.now (known c.args.classes.now) (λ (m : MethodId). m.class.number) (λ (m : MethodId). m.index) (λ (d i : ℕ). Method d i) (ResolvesCall c.args.world.now c.args.r.now) c.args.out.now.items
    (none_at c.in_ok-m.field-0 ((m : MethodId) → ResolvesCall c.args.world.now c.args.r.now m → ⊥) c.in_default.is c.in_ok-m.ensures.none)

pub shape-requires : goal.shape-requires
shape-requires c =
    let resolves = some_at c.in_ok-m.field-0 c.in-Some.m (λ (m : MethodId). ResolvesCall c.args.world.now c.args.r.now m) c.in-Some.is c.in_ok-m.ensures.found in
    let declares = call_declares c.args.r.now.interface c.args.world.now c.args.r.now c.in-Some.m resolves in
    slice_get_within c.args.world.now c.in-Some.m.class.number declares.class declares.of_class

pub returns-in-None : goal.returns-in-None
returns-in-None c =
    finds_no_number c.args.world.now (known c.args.classes.now) (λ (m : MethodId). m.class.number) (λ (m : MethodId). m.index) (λ (d i : ℕ). Method d i) (ResolvesCall c.args.world.now c.args.r.now)
    (one_call c.references_resolve_to_one.ensures.method c.references_resolve_to_one.ensures.interface_method c.args.r.now.interface c.args.world.now c.args.r.now c.shape.ensures.world) c.in-Some.m
    (some_at c.in_ok-m.field-0 c.in-Some.m (λ (m : MethodId). ResolvesCall c.args.world.now c.args.r.now m) c.in-Some.is c.in_ok-m.ensures.found) c.shape.result.now c.shape.ensures.shape c.args.out.now.items
    (rw c.as_slice.ensures.value at c.in-None.ensures.none)

pub returns-in-Some-place_of : goal.returns-in-Some-place_of
returns-in-Some-place_of c =
    on_ok_weaker c.push_fact.result
    (finds_number c.args.world.now (known c.args.classes.now) (λ (m : MethodId). m.class.number) (λ (m : MethodId). m.index) (λ (d i : ℕ). Method d i) (ResolvesCall c.args.world.now c.args.r.now)
    (one_call c.references_resolve_to_one.ensures.method c.references_resolve_to_one.ensures.interface_method c.args.r.now.interface c.args.world.now c.args.r.now c.shape.ensures.world) c.in-Some.m
    (some_at c.in_ok-m.field-0 c.in-Some.m (λ (m : MethodId). ResolvesCall c.args.world.now c.args.r.now m) c.in-Some.is c.in_ok-m.ensures.found) c.shape.result.now c.shape.ensures.shape
    c.requires c.in-Some-place_of.class c.args.out.now.items c.push_fact.new.out.items (rw c.as_slice.ensures.value at c.in-Some-place_of.ensures.found))
    c.push_fact.ensures.ok
