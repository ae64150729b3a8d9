-- The class of a method between is the method's own one or above it.
use Rattle.std.proofs.Common.{sym, inl, inr, get_or, refl}
use Rattle.std.proofs.lemmas.Option.{slice_get-get_or}
use Rattle.std.proofs.lemmas.List.Elements.{Contains-get_or}
use Rattle.jv_types.specs.declared.ids.ClassId.{ClassId}
use Rattle.jv_resolve.specs.Overriding.{HasMiddle, HasMiddleAbove}
use Rattle.jv_resolve.proofs.Hierarchy.{proper_here, sub_cases}
use Rattle.jv_resolve.proofs.Tests.{denied, never}
use Rattle.jv_resolve.proofs.MembersLemmas.{class_here}
use Rattle.jv_resolve.proofs.PlacesLemmas.{none_more, none_among}
use Rattle.jv_resolve.proofs.overriding.is_over_middle.Goals as goal

pub proper_supers-c-items-requires : goal.proper_supers-c-items-requires
proper_supers-c-items-requires c = class_here c.args.world.now c.args.a c.requires.a_here

pub has_middle-requires-in-loop-c-clause-c_here : goal.has_middle-requires-in-loop-c-clause-c_here
has_middle-requires-in-loop-c-clause-c_here c =
    let zero_class : ClassId = record { number = 0 } in
    let d = get_or c.proper_supers-c-items.result.now c.loop-c.c-index zero_class in
    proper_here c.args.world.now c.args.a.class.number d.number (c.proper_supers-c-items.ensures.exact.only d (Contains-get_or c.proper_supers-c-items.result.now c.loop-c.c-index zero_class c.loop-c-test.true))

pub loop-c-preserved : goal.loop-c-preserved
loop-c-preserved c =
    let zero_class : ClassId = record { number = 0 } in
    none_more (λ (d : ClassId). HasMiddle c.args.world.now c.args.a c.args.b d.number) c.proper_supers-c-items.result.now c.loop-c.c-index
    (get_or c.proper_supers-c-items.result.now c.loop-c.c-index zero_class)
    (slice_get-get_or c.proper_supers-c-items.result.now c.loop-c.c-index zero_class c.loop-c-test.true)
    (denied c.has_middle-in-loop-c.result c.if-has_middle-2.false c.has_middle-in-loop-c.ensures.1) c.loop-c.invariant

pub returns : goal.returns
returns c = never (HasMiddleAbove c.args.world.now c.args.a c.args.b) (λ h. elim (sub_cases c.args.world.now c.args.a.class.number h.0.class.number h.1.sub) [
  | inl e ↦ denied c.has_middle.result c.if-has_middle.false c.has_middle.ensures.1 (h.0, sym e, h.1, h.2)
  | inr p ↦ none_among (λ (d : ClassId). HasMiddle c.args.world.now c.args.a c.args.b d.number) c.proper_supers-c-items.result.now c.loop-c.c-index h.0.class
      c.loop-c-test.false c.loop-c.invariant (c.proper_supers-c-items.ensures.exact.all h.0.class p) (h.0, refl, h.1, h.2)
])
