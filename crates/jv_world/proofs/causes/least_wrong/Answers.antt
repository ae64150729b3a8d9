use Rattle.std.proofs.Common.{◌≡◌, ℕ, length, option_copied, subst, arith}
use Rattle.jv_world.proofs.SuperKinds.{IsCheckedUpTo, checked-none, checked-same, checked-more, copied_none}
use Rattle.jv_world.proofs.causes.least_wrong.Goals as goal
use Rattle.jv_world.proofs.causes.least_wrong.Goals.{then-not-has_right_supers, else-not-has_right_supers}

pub loop-shape-init : goal.loop-shape-init
loop-shape-init c = checked-none c.args.shapes.now

pub loop-shape-preserved : goal.loop-shape-preserved
loop-shape-preserved c =
    elim c.if-not-has_right_supers.branch [
      | then-not-has_right_supers w ↦ rw w.best-is
          (checked-more c.args.shapes.now c.loop-shape.shape-index c.shape-item.result c.has_right_supers.result (option_copied c.loop-shape.best) w.lesser.result.now c.loop-shape-test.true c.shape-item.is
          c.has_right_supers.ensures w.if-not-has_right_supers.true w.lesser.ensures c.loop-shape.invariant)
      | else-not-has_right_supers w ↦ rw w.best-is
          (checked-same c.args.shapes.now c.loop-shape.shape-index c.shape-item.result c.has_right_supers.result (option_copied c.loop-shape.best) c.loop-shape-test.true c.shape-item.is
          c.has_right_supers.ensures w.if-not-has_right_supers.false c.loop-shape.invariant)
    ]

pub returns : goal.returns
returns c =
    let P : ℕ → Type 0 = λ n. IsCheckedUpTo c.args.shapes.now n (option_copied c.loop-shape.best) in
    let all : c.loop-shape.shape-index ≡ length c.args.shapes.now = omega arith in
    let done = subst P all c.loop-shape.invariant in
    record { least = done.least; right = copied_none c.loop-shape.best _ done.right }
