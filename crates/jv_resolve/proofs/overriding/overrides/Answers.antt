-- What is shown of longer rows: one method between is enough, and none is needed where `b` isn't package-private.
use Rattle.std.proofs.Common.{sym, ◌∙◌}
use Rattle.jv_equality.proofs.ToldApart.{method_id_told}
use Rattle.jv_resolve.specs.Overriding.{Overrides, same, direct, through}
use Rattle.jv_resolve.proofs.Tests.{denied, yes, never_at}
use Rattle.jv_resolve.proofs.OverridingLemmas.{short_rest, hidden_at}
use Rattle.jv_resolve.proofs.overriding.overrides.Goals as goal

pub returns-then-eq : goal.returns-then-eq
returns-then-eq c = yes (Overrides c.args.world.now c.args.a c.args.b) (same c.args.a c.args.b ((method_id_told c.args.a c.args.b).0 (sym c.eq.ensures ∙ c.if-eq.true)))

pub returns-then-overrides_directly : goal.returns-then-overrides_directly
returns-then-overrides_directly c =
    yes (Overrides c.args.world.now c.args.a c.args.b) (direct c.args.a c.args.b (c.overrides_directly.ensures.0 c.if-overrides_directly.true))

pub returns-then-is_package_private : goal.returns-then-is_package_private
returns-then-is_package_private c = (
  λ t. let h = c.is_over_middle.ensures.0 t in
      through c.args.a h.0 c.args.b (direct c.args.a h.0 h.1) (direct h.0 c.args.b h.2),
  λ o.
      let t = short_rest c.args.world.now c.args.a c.args.b o (denied c.eq.result c.if-eq.false (λ e. c.eq.ensures ∙ (method_id_told c.args.a c.args.b).1 e)) (denied c.overrides_directly.result c.if-overrides_directly.false c.overrides_directly.ensures.1) in
      c.is_over_middle.ensures.1 (t.middle, t.first, t.second),
)

pub returns-else-is_package_private : goal.returns-else-is_package_private
returns-else-is_package_private c =
    never_at (Overrides c.args.world.now c.args.a c.args.b) c.is_package_private.result c.if-is_package_private.false
    (λ o.
    let t = short_rest c.args.world.now c.args.a c.args.b o (denied c.eq.result c.if-eq.false (λ e. c.eq.ensures ∙ (method_id_told c.args.a c.args.b).1 e)) (denied c.overrides_directly.result c.if-overrides_directly.false c.overrides_directly.ensures.1) in
    denied c.is_package_private.result c.if-is_package_private.false c.is_package_private.ensures.1 (hidden_at c.args.world.now c.args.a c.args.b c.method_shape.result.now c.method_shape.ensures t))
