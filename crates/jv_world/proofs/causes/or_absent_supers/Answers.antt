use Rattle.std.proofs.Common.{◌≡◌, Some, ap, sym, ◌∙◌, subst, option_copied, take}
use Rattle.std.proofs.lemmas.Option.{slice_get-get_or, same_Some}
use Rattle.jv_types.specs.declared.shapes.Shape.{Shape}
use Rattle.jv_world.specs.Steps.Causes.{IsLeastOf}
use Rattle.jv_world.proofs.Absent.{SoFar, SoFar-start, SoFar-step, SoFar-end}
use Rattle.jv_world.proofs.causes.or_absent_supers.Goals as goal

pub loop-name-init : goal.loop-name-init
loop-name-init c =
    λ shape at.
    let w = c.args.shapes.now in
    let own = c.index-shapes-place.result in
    let here : own ≡ shape = same_Some own shape (sym (slice_get-get_or w c.args.place own c.requires.here ∙ ap Some (sym c.index-shapes-place.is)) ∙ at) in
    let P : Shape → Type 0 = λ s. IsLeastOf (SoFar w c.args.names.now c.args.place s (take 0 c.as_slice-name-items.result.now)) (option_copied c.or_absent_parent-least.result) in
    subst P here (SoFar-start w c.args.names.now c.args.place own c.as_slice-name-items.result.now _ _ c.or_absent_parent-least.ensures c.requires.so_far)

pub loop-name-preserved : goal.loop-name-preserved
loop-name-preserved c =
    λ shape at.
    SoFar-step c.args.shapes.now c.args.names.now c.args.place shape c.as_slice-name-items.result.now c.loop-name.name-index c.name-item.result _ _ c.loop-name-test.true c.name-item.is
    c.or_absent-least.ensures (c.loop-name.invariant shape at)

pub returns : goal.returns
returns c =
    let w = c.args.shapes.now in
    let own = c.index-shapes-place.result in
    SoFar-end w c.args.names.now c.args.place own c.as_slice-name-items.result.now c.loop-name.name-index _ c.requires.here c.index-shapes-place.is c.as_slice-name-items.ensures c.loop-name-test.false
    (c.loop-name.invariant own (slice_get-get_or w c.args.place own c.requires.here ∙ ap Some (sym c.index-shapes-place.is)))
