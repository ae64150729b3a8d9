-- Each method of the class is looked at.
use Rattle.std.proofs.Common.{◌≡◌, ◌<◌, sym, subst, length, arith, inl, inr}
use Rattle.std.proofs.lemmas.Bool.{cases_lt}
use Rattle.jv_types.specs.declared.ids.MethodId.{MethodId}
use Rattle.jv_types.specs.declared.shapes.MethodShape.{MethodShape}
use Rattle.std.specs.Prelude.{List}
use Rattle.jv_resolve.specs.Overriding.{OverridesDirectly, HasMiddle}
use Rattle.jv_resolve.proofs.Tests.{denied, never}
use Rattle.jv_resolve.proofs.MembersLemmas.{method_is, index_within}
use Rattle.jv_resolve.proofs.overriding.has_middle.Goals as goal

pub loop-index-preserved : goal.loop-index-preserved
loop-index-preserved c = λ m ec lt p q.
    let middle : MethodId = record { class = c.args.c; index = c.loop-index.index } in
    elim (cases_lt m.index c.loop-index.index) [
      | inl l ↦ c.loop-index.invariant m ec l p q
      | inr g ↦
          let e : m ≡ middle = method_is m middle ec (omega arith) in
          denied c.is_middle.result c.if-is_middle.false c.is_middle.ensures.1 (subst (λ (x : MethodId). OverridesDirectly c.args.world.now c.args.a x) e p, subst (λ (x : MethodId). OverridesDirectly c.args.world.now x c.args.b) e q)
    ]

pub returns : goal.returns
returns c = never (HasMiddle c.args.world.now c.args.a c.args.b c.args.c.number) (λ h.
    let within : h.0.index < length c.shape.result.now.methods = index_within c.args.world.now h.0 h.3.shape c.args.c.number c.shape.result.now h.3.place h.1 c.shape.ensures.shape in
    let in_slice : h.0.index < length c.as_slice-methods.result.now = subst (λ (xs : List MethodShape). h.0.index < length xs) (sym c.as_slice-methods.ensures) within in
    c.loop-index.invariant h.0 h.1 (omega arith) h.2 h.3)
