-- Reading items one after the other, as a loop does.
use Rattle.std.proofs.Common.{◌≡◌, ℕ, suc, ◌-◌, ◌+◌, ◌≤◌, ◌<◌, List, [], ◌∷◌, ◌++◌, Bool, true, false, Option, Some, None, refl, sym, ap, ◌∙◌, arith}
use Rattle.std.proofs.lemmas.List.{append-nil}
use Rattle.jv_pool.specs.declared.item.PoolItem.{PoolItem}
use Rattle.jv_read.specs.declared.fault.ReadFault.{ReadFault}
use Rattle.jv_read.specs.declared.fault.ReadFault.TheVariants as faults
use Rattle.jv_read.specs.Reading.{Fails}
use Rattle.jv_read.proofs.Loops.{with_front, front_none, regroup}
use Rattle.jv_pool.specs.Steps.PoolReading.{slot_at, items_at}

-- nothing was read yet
pub items_begin : (front : List PoolItem) (count : ℕ) (bytes : List ℕ) → front ≡ [] → with_front front (items_at (count - 0) false bytes) ≡ items_at count false bytes
items_begin front count bytes e =
    let k : count - 0 ≡ count = omega arith in
    rw k (front_none front (items_at count false bytes) e)

-- one item more was read
pub item_goes_on : (front : List PoolItem) (count i : ℕ) (wide after_wide : Bool) (bytes after : List ℕ) (item : PoolItem) (total : Option (List PoolItem × List ℕ)) → i < count
    → slot_at wide bytes ≡ Some ((item, after_wide), after) → with_front front (items_at (count - i) wide bytes) ≡ total
    → with_front (front ++ item ∷ []) (items_at (count - (i + 1)) after_wide after) ≡ total
unfolding items_at
item_goes_on front count i wide after_wide bytes after item total lt h so_far =
    let k : count - i ≡ suc (count - (i + 1)) = omega arith in
    let one : with_front front (items_at (count - i) wide bytes) ≡ with_front (front ++ item ∷ []) (items_at (count - (i + 1)) after_wide after) = rw (k, h) (regroup front item (items_at (count - (i + 1)) after_wide after)) in
    sym one ∙ so_far

-- an item that is not read ends it all
pub item_ends : (error : ReadFault) (front : List PoolItem) (count i : ℕ) (wide : Bool) (bytes : List ℕ) (total : Option (List PoolItem × List ℕ)) → i < count
    → Fails error (slot_at wide bytes) → with_front front (items_at (count - i) wide bytes) ≡ total → Fails error total
unfolding items_at
item_ends faults.Memory front count i wide bytes total lt h so_far = tt
item_ends faults.Bad front count i wide bytes total lt h so_far =
    let k : count - i ≡ suc (count - (i + 1)) = omega arith in
    let one : with_front front (items_at (count - i) wide bytes) ≡ None = rw (k, h) refl in
    sym so_far ∙ one

-- all items were read
pub items_are_done : (front : List PoolItem) (count i : ℕ) (wide : Bool) (bytes : List ℕ) (total : Option (List PoolItem × List ℕ)) → count ≤ i → wide ≡ false
    → with_front front (items_at (count - i) wide bytes) ≡ total → total ≡ Some (front, bytes)
unfolding items_at
items_are_done front count i wide bytes total le narrow so_far =
    let k : count - i ≡ 0 = omega arith in
    let one : with_front front (items_at (count - i) wide bytes) ≡ Some (front, bytes) = rw (k, narrow) (ap (λ (es : List PoolItem). Some (es, bytes)) (append-nil front)) in
    sym so_far ∙ one

-- the last item takes an index more than there are
pub items_are_cut : (front : List PoolItem) (count i : ℕ) (wide : Bool) (bytes : List ℕ) (total : Option (List PoolItem × List ℕ)) → count ≤ i → wide ≡ true
    → with_front front (items_at (count - i) wide bytes) ≡ total → total ≡ None
unfolding items_at
items_are_cut front count i wide bytes total le is_wide so_far =
    let k : count - i ≡ 0 = omega arith in
    let one : with_front front (items_at (count - i) wide bytes) ≡ None = rw (k, is_wide) refl in
    sym so_far ∙ one
