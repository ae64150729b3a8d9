use Rattle.std.proofs.Common.{◌≡◌, ℕ, length, option_copied, subst, arith}
use Rattle.jv_world.specs.Steps.Causes.{IsLeastOf, IsAbsentBefore}
use Rattle.jv_world.proofs.Absent.{IsLeastOf-absent_none}
use Rattle.jv_world.proofs.causes.least_absent.Goals as goal

pub loop-place-init : goal.loop-place-init
loop-place-init c = IsLeastOf-absent_none c.args.shapes.now c.args.names.now

pub returns : goal.returns
returns c =
    let P : ℕ → Type 0 = λ n. IsLeastOf (IsAbsentBefore c.args.shapes.now c.args.names.now n) (option_copied c.loop-place.best) in
    let all : c.loop-place.place ≡ length c.args.shapes.now = omega arith in
    subst P all c.loop-place.invariant
