-- Keys by which verification types are compared.
use Rattle.std.specs.Prelude.{ℕ, List, [], ◌∷◌}
use Rattle.std.specs.declared.cmp.Ordering.{Ordering}
use Rattle.std.specs.Ordering.{nat_cmp}
use Rattle.std.specs.Cmp.{IsTotalOrder}
use Rattle.std.specs.Cmp.Lexicographic.{slice_cmp, nat_list_cmp_total}
use Rattle.std.proofs.lemmas.Cmp.{on_total}
use Rattle.jv_types.specs.declared.frames.VType.{VType, Top, Integer, Float, Long, Double, Null, UninitThis, Uninit, Class, PrimArray, Array', Row_of-VType, end_of-VType, more_of-VType}
use Rattle.jv_types.specs.Types.{prim_number}

-- the place of a verification type's kind among the eleven
abbrev pub vtype_rank : VType → ℕ
vtype_rank Top = 0
vtype_rank Integer = 1
vtype_rank Float = 2
vtype_rank Long = 3
vtype_rank Double = 4
vtype_rank Null = 5
vtype_rank UninitThis = 6
vtype_rank (Uninit pc) = 7
vtype_rank (Class name) = 8
vtype_rank (PrimArray prim) = 9
vtype_rank (Array' shape all) = 10

-- what a verification type is compared by: its kind, and what the kind leaves open
abbrev mutual
  pub vtype_key : VType → List ℕ
  vtype_key Top = 0 ∷ []
  vtype_key Integer = 1 ∷ []
  vtype_key Float = 2 ∷ []
  vtype_key Long = 3 ∷ []
  vtype_key Double = 4 ∷ []
  vtype_key Null = 5 ∷ []
  vtype_key UninitThis = 6 ∷ []
  vtype_key (Uninit pc) = 7 ∷ pc ∷ []
  vtype_key (Class name) = 8 ∷ name
  vtype_key (PrimArray prim) = 9 ∷ prim_number prim ∷ []
  vtype_key (Array' shape all) = 10 ∷ vtype_item_key all

  pub vtype_item_key : {m : _} → Row_of-VType m → List ℕ
  vtype_item_key end_of-VType = []
  vtype_item_key (more_of-VType item rest) = vtype_key item

-- the order of verification types
abbrev pub vtype_cmp : VType → VType → Ordering
vtype_cmp x y = slice_cmp nat_cmp (vtype_key x) (vtype_key y)

-- they are in a total order
pub vtype_cmp_total : IsTotalOrder vtype_cmp
vtype_cmp_total = on_total vtype_key nat_list_cmp_total
