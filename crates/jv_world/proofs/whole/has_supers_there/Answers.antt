use Rattle.std.proofs.Common.{ℕ, List, Contains, subst, sym, inr}
use Rattle.jv_world.proofs.Wholes.{both_there}
use Rattle.jv_world.proofs.whole.has_supers_there.Goals as goal

pub returns-then-is_parent_there : goal.returns-then-is_parent_there
returns-then-is_parent_there c = (
  λ t. both_there c.args.shapes.now c.args.shape.now (c.is_parent_there.ensures.0 c.if-is_parent_there.true)
      (λ name has. c.are_there.ensures.0 t name (subst (λ (l : List (List ℕ)). Contains l name) (sym c.as_slice.ensures) has)),
  λ there. c.are_there.ensures.1 (λ name has. there name (inr (subst (λ (l : List (List ℕ)). Contains l name) c.as_slice.ensures has))),
)
