-- The facts of a list as a set that a test decides.
use Rattle.std.proofs.Common.{◌↔◌, Bool, IsTrue, List, Contains}
use Rattle.std.specs.List.{list_any}
use Rattle.std.proofs.lemmas.Map.Views.{list_any-from_Contains, Contains-from_any}
use Rattle.jv_types.specs.declared.fact.Fact.{Fact}
use Rattle.jv_types.specs.contracts.fact.FactPartialEq as fact_per
use Rattle.jv_types.specs.contracts.fact.FactEq as fact_eq
use Rattle.jv_equality.proofs.ToldApart.{fact_told}

-- the list has a fact that `==` finds
abbrev pub is_listed : List Fact → Fact → Bool
is_listed facts fact = list_any (fact_per.TheImpl.ghosts.eq fact) facts

pub listed : (facts : List Fact) (fact : Fact) → IsTrue (is_listed facts fact) ↔ Contains facts fact
listed facts fact = (
  λ found. Contains-from_any (λ x y e. (fact_told x y).0 e) fact facts found,
  λ held. list_any-from_Contains fact_eq.TheImpl.Laws.laws-law fact facts held,
)
