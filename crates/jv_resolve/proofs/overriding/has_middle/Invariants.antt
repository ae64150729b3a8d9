-- None of the methods so far stands between.
use Rattle.std.proofs.Common.{◌≡◌, ◌<◌}
use Rattle.jv_types.specs.declared.ids.MethodId.{MethodId}
use Rattle.jv_resolve.specs.Overriding.{OverridesDirectly}
use Rattle.jv_resolve.proofs.overriding.has_middle.Given as goal

abbrev pub invariant-loop-index : goal.invariant-loop-index
invariant-loop-index l = (m : MethodId) → m.class.number ≡ l.c.number → m.index < l.index → OverridesDirectly l.world l.a m → OverridesDirectly l.world m l.b → ⊥
