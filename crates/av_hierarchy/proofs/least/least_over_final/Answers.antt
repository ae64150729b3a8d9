use Rattle.std.proofs.Common.{◌<◌, ◌≤◌, List, Some, length, option_copied, subst}
use Rattle.jv_types.specs.declared.shapes.Shape.{Shape}
use Rattle.av_hierarchy.proofs.Among.{denied}
use Rattle.av_hierarchy.proofs.Finding.{read_at}
use Rattle.av_hierarchy.proofs.Leasts.{over-all, over-more, over-none, over-same}
use Rattle.av_hierarchy.proofs.least.least_over_final.Goals as goal
use Rattle.av_hierarchy.proofs.least.least_over_final.Goals.{then-is_over_final, else-is_over_final}

pub loop-place-init : goal.loop-place-init
loop-place-init c = over-none c.args.world.now

pub loop-place-preserved : goal.loop-place-preserved
loop-place-preserved c =
    elim c.if-is_over_final.branch [
      | then-is_over_final w ↦ rw w.best-is
          (over-more c.args.world.now c.loop-place.place w.shape.result.now (option_copied c.loop-place.best) (Some w.lesser.result.now) w.shape.ensures.shape
          (c.is_over_final.ensures.0 w.if-is_over_final.true) w.lesser.ensures c.loop-place.invariant)
      | else-is_over_final w ↦ rw w.best-is
          (let within : c.loop-place.place < length c.args.world.now =
          subst (λ (l : List Shape). c.loop-place.place < length l) c.shapes-place-end.ensures.shapes c.loop-place-test.true in
          let x = read_at c.args.world.now c.loop-place.place within in
          over-same c.args.world.now c.loop-place.place x.0 (option_copied c.loop-place.best) x.1 (denied c.is_over_final.result w.if-is_over_final.false c.is_over_final.ensures.1) c.loop-place.invariant)
    ]

pub returns : goal.returns
returns c =
    let past : length c.args.world.now ≤ c.loop-place.place =
    subst (λ (l : List Shape). length l ≤ c.loop-place.place) c.shapes-place-end.ensures.shapes c.loop-place-test.false in
    over-all c.args.world.now c.loop-place.place (option_copied c.loop-place.best) past c.loop-place.invariant
