-- One class is Object, and it declares one such method.
use Rattle.std.proofs.Common.{◌≡◌, ◌∙◌, ℕ, sym, ap, subst}
use Rattle.jv_types.specs.declared.ids.ClassId.{ClassId}
use Rattle.jv_world.specs.Worlds.{IsNamed, object_name}
use Rattle.jv_resolve.specs.Resolving.{IsPublicInstance}
use Rattle.jv_resolve.proofs.Hierarchy.{named_here}
use Rattle.jv_resolve.proofs.MembersLemmas.{declares_one}
use Rattle.jv_resolve.proofs.Tests.{none_at, some_at, denied}
use Rattle.jv_resolve.proofs.class_methods.object_method.Goals as goal

pub returns-in_default-clause-none : goal.returns-in_default-clause-none
returns-in_default-clause-none c = λ m p.
    none_at c.in_ok-object.field-0 ((d : ℕ) → IsNamed c.args.world.now d object_name → ⊥) c.in_default.is c.in_ok-object.ensures.none m.class.number p.1

pub declared_method-requires : goal.declared_method-requires
declared_method-requires c =
    named_here c.args.world.now c.in-Some.object.number object_name
    (some_at c.in_ok-object.field-0 c.in-Some.object (λ (k : ClassId). IsNamed c.args.world.now k.number object_name) c.in-Some.is c.in_ok-object.ensures.found)

pub returns-in_default-declared_method-clause-none : goal.returns-in_default-declared_method-clause-none
returns-in_default-declared_method-clause-none c = λ m p.
    let one = some_at c.in_ok-object.field-0 c.in-Some.object (λ (k : ClassId). (d : ℕ) → IsNamed c.args.world.now d object_name → d ≡ k.number) c.in-Some.is c.in_ok-object.ensures.one in
    c.in_default-declared_method.ensures.none m (one m.class.number p.1) p.0

pub returns-clause-none : goal.returns-clause-none
returns-clause-none c = λ m p.
    let one = some_at c.in_ok-object.field-0 c.in-Some.object (λ (k : ClassId). (d : ℕ) → IsNamed c.args.world.now d object_name → d ≡ k.number) c.in-Some.is c.in_ok-object.ensures.one in
    let found = c.in-Some-declared_method.ensures.found in
    let same : m ≡ c.in-Some-declared_method.m = declares_one c.args.world.now c.args.name.now c.args.desc.now m c.in-Some-declared_method.m p.0 found.1 (one m.class.number p.1 ∙ sym (ap (λ (k : ClassId). k.number) found.0)) in
    denied c.is_public_instance.result c.if-is_public_instance.false c.is_public_instance.ensures.1 (subst (IsPublicInstance c.args.world.now) same p.2)
