use Rattle.std.specs.Cmp.Lexicographic.{lists_ties}
use Rattle.jv_equality.proofs.Exact.{lists_told, ties_told}
use Rattle.jv_equality.proofs.equality.lists_are_told_apart.Goals as goal

pub returns-clause-list : goal.returns-clause-list
returns-clause-list g c = lists_told c.requires

pub returns-clause-list_order : goal.returns-clause-list_order
returns-clause-list_order g c = ties_told _ (lists_told c.requires) (lists_ties g.T.Ord.cmp g.met.T.Ord.matches_eq)
