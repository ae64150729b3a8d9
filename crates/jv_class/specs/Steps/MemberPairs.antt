-- Members by the numbers of their names and descriptors.
use Rattle.std.specs.Prelude.{◌≡◌, ◌⊎◌, ◌↔◌, ◌-◌, ◌==◌, ℕ, Bool, IsTrue, List, unwrap_or, if◌then◌else◌}
use Rattle.std.specs.List.{slice_get, AllByRecursion}
use Rattle.std.specs.declared.cmp.Ordering.{Ordering}
use Rattle.std.specs.Ordering.{nat_cmp, ordering_then}
use Rattle.std.specs.BTreeSet.{BTreeSet, contains}
use Rattle.jv_pool.specs.declared.item.PoolItem.{PoolItem}
use Rattle.jv_class.specs.declared.class_file.Member.{Member}
use Rattle.jv_class.specs.Steps.PoolTexts.{NamesText}

-- the number of the item at an index, and 0 where there is none
abbrev pub number_at : List ℕ → ℕ → ℕ
number_at numbers index = if index == 0 then 0 else unwrap_or (slice_get numbers (index - 1)) 0

-- the numbers of a member's name and descriptor
abbrev pub pair_of : List ℕ → Member → ℕ × ℕ
pair_of numbers m = (number_at numbers m.name, number_at numbers m.desc)

-- the order of pairs
abbrev pub pair_cmp : ℕ × ℕ → ℕ × ℕ → Ordering
pair_cmp x y = ordering_then (nat_cmp x.0 y.0) (nat_cmp x.1 y.1)

-- the set has the pair
abbrev pub has : BTreeSet (ℕ × ℕ) → ℕ × ℕ → Bool
has pairs pair = contains pair_cmp pairs pair

-- the set has the pair now, and what it had
abbrev pub Adds : BTreeSet (ℕ × ℕ) → BTreeSet (ℕ × ℕ) → ℕ × ℕ → Type 0
Adds old now pair = (other : ℕ × ℕ) → IsTrue (has now other) ↔ ((pair ≡ other) ⊎ IsTrue (has old other))

-- the member has a name and a descriptor
pub record HasTexts (items : List PoolItem) (m : Member) : Type 0 where
  pub name : NamesText items m.name
  pub desc : NamesText items m.desc

-- each member has them
pub record HaveTexts (items : List PoolItem) (members : List Member) : Type 0 where
  pub each : AllByRecursion (HasTexts items) members
