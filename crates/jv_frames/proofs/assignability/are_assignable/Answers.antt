use Rattle.std.proofs.Common.{subst, get_or}
use Rattle.jv_types.specs.declared.frames.VType.{VType}
use Rattle.jv_frames.specs.Assignable.{IsAssignable}
use Rattle.jv_frames.proofs.Pairs.{AllZipBefore-more}
use Rattle.jv_frames.proofs.assignability.are_assignable.Goals as goal

pub loop-place-preserved : goal.loop-place-preserved
loop-place-preserved c =
    let R : VType → VType → Type 0 = IsAssignable c.args.world.now in
    let i = c.loop-place.place in
    let x = c.index-types-place.result in
    let y = c.index-others-place.result in
    AllZipBefore-more R c.args.types.now c.args.others.now i x y c.loop-place-test.true c.loop-place.invariant
    (subst (λ (z : VType). R z (get_or c.args.others.now i y)) c.index-types-place.is
    (subst (λ (z : VType). R x z) c.index-others-place.is (c.assignable.ensures.0 c.if-not-assignable.false)))
