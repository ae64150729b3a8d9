use Rattle.std.proofs.Common.{◌≡◌, ◌<◌, IfNone, IfSome, sym, subst, arith}
use Rattle.jv_resolve.proofs.Tests.{none_weaker, some_weaker}
use Rattle.jv_types.specs.declared.label.LibBase.{LibBase}
use Rattle.jv_types.specs.declared.label.LibBase.TheVariants as bases
use Rattle.av_rules.specs.declared.flat_type.FlatType.{FlatType}
use Rattle.av_rules.specs.Labels.{IsLibType}
use Rattle.av_rules.proofs.given.Given.lib_type.Goals as goal

pub returns-in-Class-clause-found : goal.returns-in-Class-clause-found
returns-in-Class-clause-found c =
    subst (λ (b : LibBase). IfSome c.class_type.result (IsLibType c.args.self.now.world.now b c.args.dims)) (sym c.in-Class.is) c.class_type.ensures.found

pub returns-in-Class-clause-none : goal.returns-in-Class-clause-none
returns-in-Class-clause-none c =
    subst (λ (b : LibBase). IfNone c.class_type.result ((made : FlatType) → IsLibType c.args.self.now.world.now b c.args.dims made → ⊥)) (sym c.in-Class.is)
    c.class_type.ensures.none

pub returns-in-Prim-clause-found : goal.returns-in-Prim-clause-found
returns-in-Prim-clause-found c =
    let base = bases.Prim c.in-Prim.prim in
    let Made : FlatType → Type 0 = λ made. (0 < c.args.dims) × (made ≡ record { base = base; dims = c.args.dims }) in
    subst (λ (b : LibBase). IfSome c.prim_type.result (IsLibType c.args.self.now.world.now b c.args.dims)) (sym c.in-Prim.is)
    (some_weaker c.prim_type.result Made (IsLibType c.args.self.now.world.now base c.args.dims) (λ made h. h) c.prim_type.ensures.found)

pub returns-in-Prim-clause-none : goal.returns-in-Prim-clause-none
returns-in-Prim-clause-none c =
    let base = bases.Prim c.in-Prim.prim in
    subst (λ (b : LibBase). IfNone c.prim_type.result ((made : FlatType) → IsLibType c.args.self.now.world.now b c.args.dims made → ⊥)) (sym c.in-Prim.is)
    (none_weaker c.prim_type.result (c.args.dims ≡ 0) ((made : FlatType) → IsLibType c.args.self.now.world.now base c.args.dims made → ⊥)
    (λ flat made x. absurd (let some : 0 < c.args.dims = x.0 in omega (arith, flat, some))) c.prim_type.ensures.none)
