use Rattle.std.proofs.Common.{ℕ, List, ap, sym, ◌∙◌, slice_get}
use Rattle.jv_world.proofs.NamesFound.{IsNamed-at, at_IsNamed}
use Rattle.jv_world.proofs.world.World.class.Goals as goal

pub returns-in-None-clause-none : goal.returns-in-None-clause-none
returns-in-None-clause-none c =
    λ i named.
    c.in-None.ensures.none i (ap (λ (l : List (List ℕ)). slice_get l i) c.self.invariant.names_are ∙ at_IsNamed c.self.inside.shapes.items i c.args.name.now (rw c.self.view_is named))

pub returns-in-Some-clause-found : goal.returns-in-Some-clause-found
returns-in-Some-clause-found c =
    rw (← c.self.view_is)
    (IsNamed-at c.self.inside.shapes.items c.in-Some.number c.args.name.now (ap (λ (l : List (List ℕ)). slice_get l c.in-Some.number) (sym c.self.invariant.names_are) ∙ c.in-Some.ensures.found))
