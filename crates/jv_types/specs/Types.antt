-- Keys by which types are compared.
use Rattle.std.specs.Prelude.{ℕ, ◌+◌, List, [], ◌∷◌}
use Rattle.std.specs.declared.cmp.Ordering.{Ordering}
use Rattle.std.specs.Ordering.{nat_cmp}
use Rattle.std.specs.Cmp.{IsTotalOrder}
use Rattle.std.specs.Cmp.Lexicographic.{slice_cmp, nat_list_cmp_total}
use Rattle.std.proofs.lemmas.Cmp.{on_total}
use Rattle.jv_types.specs.declared.desc.PrimType.{PrimType}
use Rattle.jv_types.specs.declared.desc.PrimType.TheVariants.{Boolean, Char, Float, Double, Byte, Short, Int, Long}
use Rattle.jv_types.specs.declared.desc.RefType.{RefType, Class, PrimArray, Array', Row_of-RefType, end_of-RefType, more_of-RefType}

-- the place of a primitive type among the eight
abbrev pub prim_number : PrimType → ℕ
prim_number Boolean = 0
prim_number Char = 1
prim_number Float = 2
prim_number Double = 3
prim_number Byte = 4
prim_number Short = 5
prim_number Int = 6
prim_number Long = 7

-- how many arrays of reference types a type has
abbrev mutual
  pub ref_depth : RefType → ℕ
  ref_depth (Class name) = 0
  ref_depth (PrimArray prim) = 0
  ref_depth (Array' shape all) = item_depth all + 1

  pub item_depth : {m : _} → Row_of-RefType m → ℕ
  item_depth end_of-RefType = 0
  item_depth (more_of-RefType item rest) = ref_depth item

-- the type inside: 0 and a class's name, or 1 and the primitive type of an array of those
abbrev mutual
  pub ref_base : RefType → List ℕ
  ref_base (Class name) = 0 ∷ name
  ref_base (PrimArray prim) = 1 ∷ prim_number prim ∷ []
  ref_base (Array' shape all) = item_base all

  pub item_base : {m : _} → Row_of-RefType m → List ℕ
  item_base end_of-RefType = []
  item_base (more_of-RefType item rest) = ref_base item

-- what reference types are compared by
abbrev pub ref_key : RefType → List ℕ
ref_key type = ref_depth type ∷ ref_base type

-- the order of reference types: first those of fewer arrays
abbrev pub ref_cmp : RefType → RefType → Ordering
ref_cmp x y = slice_cmp nat_cmp (ref_key x) (ref_key y)

-- they are in a total order
pub ref_cmp_total : IsTotalOrder ref_cmp
ref_cmp_total = on_total ref_key nat_list_cmp_total
