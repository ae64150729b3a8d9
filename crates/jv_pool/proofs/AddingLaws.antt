-- The indices of items, as one more item comes.
use Rattle.std.proofs.Common.{◌≡◌, ℕ, zero, suc, ◌+◌, ◌-◌, Bool, true, false, cond, not, eqb, List, [], ◌∷◌, ◌++◌, length, Option, Some, None, refl, sym, ap, subst, ◌∙◌, arith, Bor}
use Rattle.std.specs.Prelude.{option_map}
use Rattle.std.specs.Option.{option_copied}
use Rattle.std.specs.List.{slice_get}
use Rattle.std.specs.declared.cmp.Ordering.TheVariants.{Equal}
use Rattle.std.specs.Ordering.{is_eq}
use Rattle.std.proofs.lemmas.Bool.{and_parts, false_from_ne_true, ne_eqb}
use Rattle.std.proofs.lemmas.Option.{none-some}
use Rattle.std.specs.Map.{lookup}
use Rattle.std.specs.BTreeMap.{BTreeMap, get, is_at, Updates, IsEmpty, IsUnchanged}
use Rattle.jv_lists.proofs.Tests.{is_eq-Equal, suc_some}
use Rattle.jv_pool.specs.declared.item.PoolItem.{PoolItem}
use Rattle.jv_pool.specs.declared.item.PoolItem.TheVariants as items
use Rattle.jv_pool.specs.Lookups.{item_at}
use Rattle.jv_pool.specs.PoolText.{is_wide, is_hole}
use Rattle.jv_pool.specs.Adding.{slots_of, HasItem, item_cmp, is_same, place_of, HasPlaces}
use Rattle.jv_read.proofs.Fronts.{some_is}
use Rattle.jv_pool.proofs.ItemsTold.{items_tied}

-- ---- items that are one

same_is : (x y : PoolItem) → is_same x y ≡ true → x ≡ y
same_is x y e = (items_tied x y).0 (is_eq-Equal (item_cmp x y) (and_parts (not (is_hole x)) (is_eq (item_cmp x y)) e).1)

is_same-itself : (x : PoolItem) → is_hole x ≡ false → is_same x x ≡ true
is_same-itself x whole =
    let tied : item_cmp x x ≡ Equal = (items_tied x x).1 refl in
    rw (whole, tied) refl

-- no item is a hole in this sense
not_hole : (x : PoolItem) → is_same x items.Hole ≡ false
not_hole x = false_from_ne_true (is_same x items.Hole) (λ e.
    let h = and_parts (not (is_hole x)) (is_eq (item_cmp x items.Hole)) e in
    let is = same_is x items.Hole e in
    let t : not (is_hole items.Hole) ≡ true = subst (λ (y : PoolItem). not (is_hole y) ≡ true) is h.0 in
    absurd cc)

-- ---- where an item stands

-- an index that isn't 0 is that of the item at the place before it
pub item_at-suc : (all : List PoolItem) (j : ℕ) → item_at all (suc j) ≡ slice_get all j
item_at-suc all j =
    let k : suc j - 1 ≡ j = omega arith in
    let z : eqb (suc j) 0 ≡ false = ne_eqb (suc j) 0 (λ e. omega (arith, e)) in
    rw (z, k) refl

record Stands (all : List PoolItem) (item : PoolItem) (i : ℕ) : Type 0 where
  j : ℕ
  is : i ≡ suc j
  at : slice_get all j ≡ Some item

stands_more : (x : PoolItem) (xs : List PoolItem) (item : PoolItem) (i : ℕ) (b : Bool) (later : Option ℕ) → is_same item x ≡ b → ((p : ℕ) → later ≡ Some p → Stands xs item p)
    → cond b (Some 1) (option_map suc later) ≡ Some i → Stands (x ∷ xs) item i
stands_more x xs item i true later s others e = record { j = 0; is = sym (some_is 1 i e); at = ap (λ (y : PoolItem). Some y) (sym (same_is item x s)) }
stands_more x xs item i false later s others e =
    let p = suc_some later i e in
    let r = others p.0 p.1 in
    record { j = suc r.j; is = sym p.2 ∙ ap suc r.is; at = r.at }

stands : (all : List PoolItem) (item : PoolItem) (i : ℕ) → place_of all item ≡ Some i → Stands all item i
unfolding place_of
stands [] item i e = absurd cc
stands (x ∷ xs) item i e = stands_more x xs item i (is_same item x) (place_of xs item) refl (stands xs item) e

-- an item stands at the index that is found
pub place_found : (all : List PoolItem) (item : PoolItem) (i : ℕ) → place_of all item ≡ Some i → item_at all i ≡ Some item
place_found all item i e =
    let s = stands all item i e in
    ap (item_at all) s.is ∙ item_at-suc all s.j ∙ s.at

not_none : (b : Bool) (o : Option ℕ) → cond b (Some 1) (option_map suc o) ≡ None → (b ≡ false) × (o ≡ None)
not_none true o e = absurd cc
not_none false None e = (refl, refl)
not_none false (Some q) e = absurd cc

nowhere : (all : List PoolItem) (item : PoolItem) → is_hole item ≡ false → place_of all item ≡ None → (j : ℕ) → slice_get all j ≡ Some item → ⊥
unfolding place_of
nowhere [] item whole e j at = absurd (none-some item at)
nowhere (x ∷ xs) item whole e zero at =
    let n = not_none (is_same item x) (place_of xs item) e in
    let is : x ≡ item = some_is x item at in
    let t : is_same item x ≡ true = subst (λ (y : PoolItem). is_same item y ≡ true) (sym is) (is_same-itself item whole) in
    absurd (true_false (sym t ∙ n.0))
  where
    true_false : true ≡ false → ⊥
    true_false e = absurd cc
nowhere (x ∷ xs) item whole e (suc j) at = nowhere xs item whole (not_none (is_same item x) (place_of xs item) e).1 j at

-- an item that isn't found stands nowhere
pub place_none : (all : List PoolItem) (item : PoolItem) → is_hole item ≡ false → place_of all item ≡ None → HasItem all item → ⊥
place_none all item whole e h = by h.0 h.1
  where
    by : (i : ℕ) → item_at all i ≡ Some item → ⊥
    by zero at = absurd (none-some item at)
    by (suc j) at = nowhere all item whole e j (sym (item_at-suc all j) ∙ at)

-- ---- one item more

or_else : Option ℕ → Option ℕ → Option ℕ
or_else None o = o
or_else (Some p) o = Some p

push_cons : (b : Bool) (found last : Option ℕ) → cond b (Some 1) (option_map suc (or_else found last)) ≡ or_else (cond b (Some 1) (option_map suc found)) (option_map suc last)
unfolding or_else
push_cons true found last = refl
push_cons false None last = refl
push_cons false (Some p) last = refl

moved : ℕ → Option ℕ → Option ℕ
moved n o = option_map (λ p. p + n) o

moved_more : (n : ℕ) (o : Option ℕ) → option_map suc (moved n o) ≡ moved (suc n) o
unfolding moved
moved_more n None = refl
moved_more n (Some p) = let k : suc (p + n) ≡ p + suc n = omega arith in ap (λ (q : ℕ). Some q) k

moved_none : (o : Option ℕ) → moved 0 o ≡ o
unfolding moved
moved_none None = refl
moved_none (Some p) = let k : p + 0 ≡ p = omega arith in ap (λ (q : ℕ). Some q) k

place_append : (front back : List PoolItem) (item : PoolItem) → place_of (front ++ back) item ≡ or_else (place_of front item) (moved (length front) (place_of back item))
unfolding place_of or_else
place_append [] back item = sym (moved_none (place_of back item))
place_append (x ∷ xs) back item =
    ap (λ (o : Option ℕ). cond (is_same item x) (Some 1) (option_map suc o)) (place_append xs back item)
    ∙ push_cons (is_same item x) (place_of xs item) (moved (length xs) (place_of back item))
    ∙ ap (λ (o : Option ℕ). or_else (cond (is_same item x) (Some 1) (option_map suc (place_of xs item))) o) (moved_more (length xs) (place_of back item))

-- what an item adds is found as it alone
slots_place : (item q : PoolItem) → place_of (slots_of item) q ≡ cond (is_same q item) (Some 1) None
unfolding place_of
slots_place item q = by (is_wide item)
  where
    by : (w : Bool) → place_of (cond w (item ∷ items.Hole ∷ []) (item ∷ [])) q ≡ cond (is_same q item) (Some 1) None
    by true = let h = not_hole q in rw h refl
    by false = refl

-- an index, at a type that is known
abbrev some_index : ℕ → Option ℕ
some_index i = Some i

true_false : true ≡ false → ⊥
true_false e = absurd cc

-- the first index, at a type that is known
abbrev some_one : Option ℕ
some_one = Some 1

or_none : (o : Option ℕ) → or_else o None ≡ o
unfolding or_else
or_none None = refl
or_none (Some p) = refl

-- an item that stood nowhere has the index behind the others as its first
pub new_first : (all : List PoolItem) (item : PoolItem) → is_hole item ≡ false → place_of all item ≡ None → place_of (all ++ slots_of item) item ≡ Some (length all + 1)
unfolding or_else moved
new_first all item whole before =
    let one : place_of (slots_of item) item ≡ Some 1 = slots_place item item ∙ ap (λ (b : Bool). cond b some_one None) (is_same-itself item whole) in
    place_append all (slots_of item) item ∙ rw (before, one) (ap (λ (k : ℕ). Some k) (omega arith))

-- a map that has the indices of the items has those of the items and one more, once it is put in
pub places_grow : (all : List PoolItem) (item : PoolItem) (old new : BTreeMap PoolItem ℕ) (i : ℕ) → HasPlaces all old → is_hole item ≡ false → get item_cmp old item ≡ None → i ≡ length all + 1
    → Updates item_cmp old new item (Some i) → HasPlaces (all ++ slots_of item) new
unfolding or_else moved
places_grow all item old new i has whole absent at updates q =
    updates.0 q ∙ by (is_at (item_cmp item) q) refl
  where
    before : place_of all item ≡ None
    before = sym (has item) ∙ absent

    by : (b : Bool) → is_at (item_cmp item) q ≡ b → cond b (Some i) (get item_cmp old q) ≡ place_of (all ++ slots_of item) q
    by true e =
        let is : item ≡ q = (items_tied item q).0 (is_eq-Equal (item_cmp item q) e) in
        let here : place_of (all ++ slots_of item) item ≡ Some i =
        new_first all item whole before ∙ ap (λ (k : ℕ). Some k) (sym at) in
        subst (λ (x : PoolItem). some_index i ≡ place_of (all ++ slots_of item) x) is (sym here)
    by false e =
        let apart : is_same q item ≡ false = false_from_ne_true (is_same q item) (λ s.
        let is = same_is q item s in
        let t : is_eq (item_cmp item q) ≡ true = ap is_eq (subst (λ (x : PoolItem). item_cmp item x ≡ Equal) (sym is) ((items_tied item item).1 refl)) in
        true_false (sym t ∙ e)) in
        let none_there : place_of (slots_of item) q ≡ None = slots_place item q ∙ ap (λ (b : Bool). cond b some_one None) apart in
        has q ∙ sym (place_append all (slots_of item) q ∙ rw none_there (or_none (place_of all q)))

-- the new item stands behind the others
pub new_at : (all : List PoolItem) (item : PoolItem) → item_at (all ++ slots_of item) (length all + 1) ≡ Some item
new_at all item =
    let k : length all + 1 ≡ suc (length all) = omega arith in
    ap (item_at (all ++ slots_of item)) k ∙ item_at-suc (all ++ slots_of item) (length all) ∙ by (is_wide item)
  where
    middle : (xs ys : List PoolItem) → slice_get (xs ++ item ∷ ys) (length xs) ≡ Some item
    middle [] ys = refl
    middle (x ∷ xs) ys = middle xs ys

    by : (w : Bool) → slice_get (all ++ cond w (item ∷ items.Hole ∷ []) (item ∷ [])) (length all) ≡ Some item
    by true = middle all (items.Hole ∷ [])
    by false = middle all []

-- no items have no indices
pub places_none : (places : BTreeMap PoolItem ℕ) → IsEmpty places → HasPlaces [] places
unfolding place_of
places_none places e q = ap (lookup (is_at (item_cmp q))) e

-- a map that stayed has the same indices
pub places_stay : (all : List PoolItem) (old new : BTreeMap PoolItem ℕ) → HasPlaces all old → IsUnchanged old new → HasPlaces all new
places_stay all old new has same q = ap (lookup (is_at (item_cmp q))) same ∙ has q

-- ---- what a map answers

-- an item that is found stands there
pub found_at : (all : List PoolItem) (item : PoolItem) (places : BTreeMap PoolItem ℕ) (r : Option (Bor ℕ)) (b : Bor ℕ) → HasPlaces all places → option_copied r ≡ get item_cmp places item → r ≡ Some b
    → item_at all b.now ≡ Some item
found_at all item places r b has value is =
    place_found all item b.now (sym (has item) ∙ sym value ∙ ap option_copied is)

-- and nowhere before that
pub first_at : (all : List PoolItem) (item : PoolItem) (places : BTreeMap PoolItem ℕ) (r : Option (Bor ℕ)) (b : Bor ℕ) → HasPlaces all places → option_copied r ≡ get item_cmp places item → r ≡ Some b
    → place_of all item ≡ Some b.now
first_at all item places r b has value is = sym (has item) ∙ sym value ∙ ap option_copied is

-- one that isn't has no index
pub not_found : (all : List PoolItem) (item : PoolItem) (places : BTreeMap PoolItem ℕ) (r : Option (Bor ℕ)) → option_copied r ≡ get item_cmp places item → r ≡ None → get item_cmp places item ≡ None
not_found all item places r value is = sym value ∙ ap option_copied is

-- and stands nowhere
pub stands_nowhere : (all : List PoolItem) (item : PoolItem) (places : BTreeMap PoolItem ℕ) → HasPlaces all places → is_hole item ≡ false → get item_cmp places item ≡ None → HasItem all item → ⊥
stands_nowhere all item places has whole absent h = place_none all item whole (sym (has item) ∙ absent) h
