-- How many proper supertypes a class has, by the lists of them.
use Rattle.std.specs.Prelude.{ℕ, zero, suc, List, [], ◌∷◌, length}
use Rattle.std.specs.declared.alloc.Global.{Global}
use Rattle.std.specs.declared.vec.Vec.{Vec}
use Rattle.jv_types.specs.declared.ids.ClassId.{ClassId}

abbrev pub count_at : List (Vec ClassId Global) → ℕ → ℕ
count_at [] c = 0
count_at (row ∷ rows) zero = length row.items
count_at (row ∷ rows) (suc c) = count_at rows c
