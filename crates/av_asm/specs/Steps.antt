-- What parts of a writer answer.
use Rattle.std.specs.Prelude.{◌≡◌, ℕ, List, Option, Some, Result, Ok, Err}
use Rattle.std.specs.declared.alloc.Global.{Global}
use Rattle.std.specs.declared.vec.Vec.{Vec}
use Rattle.jv_pool.specs.declared.item.PoolItem.{PoolItem}
use Rattle.jv_insn.specs.declared.fault.EncodeRefusal.{EncodeRefusal}
use Rattle.jv_insn.specs.Steps.Writing.{PutFails}
use Rattle.std.specs.Ordering.{nat_cmp}
use Rattle.std.specs.BTreeSet.{BTreeSet, contains}
use Rattle.av_asm.specs.Planning.{is_among}

-- what a part answered, with the pool that it left, is what writing gives, unless memory ran out
abbrev pub Writes : {X : Type 0} → Result X EncodeRefusal → List PoolItem → Option (X × List PoolItem) → Type 0
Writes (Ok x) new put = put ≡ Some (x, new)
Writes (Err e) new put = PutFails e put

-- the same of a list
abbrev pub WritesAll : {X : Type 0} → Result (Vec X Global) EncodeRefusal → List PoolItem → Option (List X × List PoolItem) → Type 0
WritesAll (Ok xs) new put = put ≡ Some (xs.items, new)
WritesAll (Err e) new put = PutFails e put

-- the set has these offsets and no others
abbrev pub HasOffsets : BTreeSet ℕ → List ℕ → Type 0
HasOffsets set offsets = (pc : ℕ) → contains nat_cmp set pc ≡ is_among offsets pc
