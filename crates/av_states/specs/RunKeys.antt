-- Keys by which the types of objects are compared.
use Rattle.std.specs.Prelude.{ℕ, List, [], ◌∷◌, map}
use Rattle.std.specs.declared.cmp.Ordering.{Ordering}
use Rattle.std.specs.Ordering.{nat_cmp}
use Rattle.std.specs.Cmp.{IsTotalOrder}
use Rattle.std.specs.Cmp.Lexicographic.{slice_cmp, nat_list_cmp_total}
use Rattle.std.proofs.lemmas.Cmp.{on_total}
use Rattle.jv_types.specs.Types.{prim_number}
use Rattle.jv_types.specs.declared.ids.ClassId.{ClassId}
use Rattle.av_states.specs.declared.run_type.RunType.{RunType, Class, Lib, Prim, Array', Row_of-RunType, end_of-RunType, more_of-RunType}

-- the place of a type's kind among the four
abbrev pub run_rank : RunType → ℕ
run_rank (Class class) = 0
run_rank (Lib low ifs) = 1
run_rank (Prim prim) = 2
run_rank (Array' shape items) = 3

-- what a class that nobody sees is compared by: its lowest class, and then its interfaces
abbrev pub unseen_key : ClassId → List ClassId → List ℕ
unseen_key low ifs = low.number ∷ map (λ (class : ClassId). class.number) ifs

-- what a type is compared by: its kind, and what the kind leaves open
abbrev mutual
  pub run_key : RunType → List ℕ
  run_key (Class class) = 0 ∷ class.number ∷ []
  run_key (Lib low ifs) = 1 ∷ unseen_key low ifs
  run_key (Prim prim) = 2 ∷ prim_number prim ∷ []
  run_key (Array' shape items) = 3 ∷ run_item_key items

  pub run_item_key : {m : _} → Row_of-RunType m → List ℕ
  run_item_key end_of-RunType = []
  run_item_key (more_of-RunType item rest) = run_key item

-- the order of the types
abbrev pub run_cmp : RunType → RunType → Ordering
run_cmp x y = slice_cmp nat_cmp (run_key x) (run_key y)

-- they are in a total order
pub run_cmp_total : IsTotalOrder run_cmp
run_cmp_total = on_total run_key nat_list_cmp_total
