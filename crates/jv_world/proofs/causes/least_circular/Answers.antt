use Rattle.std.proofs.Common.{◌≡◌, ℕ, length, option_copied, Some, subst, arith}
use Rattle.jv_world.specs.Steps.Causes.{IsLeastOf, IsOwnBefore}
use Rattle.jv_world.proofs.SuperKinds.{own-none, own-same, own-more}
use Rattle.jv_world.proofs.causes.least_circular.Goals as goal
use Rattle.jv_world.proofs.causes.least_circular.Goals.{then-has_itself, else-has_itself}

pub loop-place-init : goal.loop-place-init
loop-place-init c = own-none c.args.shapes.now c.args.rows.now

pub loop-place-preserved : goal.loop-place-preserved
loop-place-preserved c =
    elim c.if-has_itself.branch [
      | then-has_itself w ↦ rw w.best-is
          (own-more c.args.shapes.now c.args.rows.now c.loop-place.place c.index-shapes-place.result c.has_itself.result (option_copied c.loop-place.best) (Some w.lesser.result.now) c.loop-place-test.true
          c.index-shapes-place.is c.has_itself.ensures w.if-has_itself.true w.lesser.ensures c.loop-place.invariant)
      | else-has_itself w ↦ rw w.best-is
          (own-same c.args.shapes.now c.args.rows.now c.loop-place.place c.has_itself.result (option_copied c.loop-place.best) c.has_itself.ensures w.if-has_itself.false c.loop-place.invariant)
    ]

pub returns : goal.returns
returns c =
    let P : ℕ → Type 0 = λ n. IsLeastOf (IsOwnBefore c.args.shapes.now c.args.rows.now n) (option_copied c.loop-place.best) in
    let all : c.loop-place.place ≡ length c.args.shapes.now = omega arith in
    subst P all c.loop-place.invariant
