-- A constant pool that is read is spelled so, and what is spelled so is read.
use Rattle.std.proofs.Common.{◌≡◌, ℕ, zero, suc, ◌+◌, ◌-◌, ◌^◌, ◌<◌, Bool, true, false, cond, eqb, IsTrue, List, [], ◌∷◌, ◌++◌, length, Option, Some, None, refl, sym, ap, subst, ◌∙◌, append_assoc, arith}
use Rattle.std.specs.List.{flat_map, list_all, AllByRecursion}
use Rattle.std.proofs.lemmas.Bool.{and_parts, eqb-false, ne_eqb}
use Rattle.std.proofs.lemmas.List.{append-nil}
use Rattle.std.proofs.lemmas.List.Concat.{flat_map-cons}
use Rattle.jv_pool.specs.declared.item.PoolItem.{PoolItem}
use Rattle.jv_pool.specs.declared.item.PoolItem.TheVariants.{Hole}
use Rattle.jv_pool.specs.PoolText.{u2, item_text, pool_text, IsItem, is_wide, is_hole, HasHoles, is_linked, IsPool, IsShort, IsPoolText, BeginsWithPool}
use Rattle.jv_read.specs.Reading.{◌>>=◌, number_at}
use Rattle.jv_pool.specs.Steps.PoolReading.{slot_at, items_at, linked_at, pool_at}
use Rattle.jv_read.proofs.Fronts.{bind_some, bind_is, given_as, some_is, past_false, past_true, joined, number_takes, number_again}
use Rattle.jv_pool.proofs.ItemReading.{item_takes, item_again}

-- ---- the item of an index

-- an item of an index stands in front of what is left, which is nothing where it is a hole
record TakesSlot (wide : Bool) (bytes : List ℕ) (x : (PoolItem × Bool) × List ℕ) : Type 0 where
  is_item : IsItem x.0.0
  short : IsShort x.0.0
  hole : is_hole x.0.0 ≡ wide
  wide_is : is_wide x.0.0 ≡ x.0.1
  parts : bytes ≡ item_text x.0.0 ++ x.1

slot_takes : (wide : Bool) (bytes : List ℕ) (x : (PoolItem × Bool) × List ℕ) → slot_at wide bytes ≡ Some x → TakesSlot wide bytes x
unfolding slot_at
slot_takes true bytes x e =
    let made : (PoolItem × Bool) × List ℕ = ((Hole, false), bytes) in
    given_as (λ (y : (PoolItem × Bool) × List ℕ). TakesSlot true bytes y) made x e (record { is_item = tt; short = tt; hole = refl; wide_is = refl; parts = refl })
slot_takes false bytes x e =
    let t = item_takes bytes x e in
    record { is_item = t.0.is_item; short = t.0.short; hole = t.0.whole; wide_is = t.1; parts = t.0.parts }

slot_again : (wide : Bool) (item : PoolItem) (rest : List ℕ) → IsItem item → IsShort item → is_hole item ≡ wide → slot_at wide (item_text item ++ rest) ≡ Some ((item, is_wide item), rest)
unfolding slot_at
slot_again true item rest fits short hole = by item hole
  where
    by : (item : PoolItem) → is_hole item ≡ true → slot_at true (item_text item ++ rest) ≡ Some ((item, is_wide item), rest)
    by Hole h = refl
    by _ h = absurd cc
slot_again false item rest fits short hole = item_again item rest fits short hole

-- ---- the items one after the other

record TakesItems (count : ℕ) (wide : Bool) (bytes : List ℕ) (x : List PoolItem × List ℕ) : Type 0 where
  each : AllByRecursion IsItem x.0
  short : AllByRecursion IsShort x.0
  holes : HasHoles wide x.0
  count_is : length x.0 ≡ count
  parts : bytes ≡ flat_map item_text x.0 ++ x.1

items_take : (count : ℕ) (wide : Bool) (bytes : List ℕ) (x : List PoolItem × List ℕ) → items_at count wide bytes ≡ Some x → TakesItems count wide bytes x
unfolding items_at
items_take zero true bytes x e = absurd cc
items_take zero false bytes x e =
    let made : List PoolItem × List ℕ = ([], bytes) in
    given_as (λ (y : List PoolItem × List ℕ). TakesItems 0 false bytes y) made x e (record { each = tt; short = tt; holes = refl; count_is = refl; parts = refl })
items_take (suc n) wide bytes x e =
    let a = bind_some (slot_at wide bytes) (λ first. items_at n first.0.1 first.1 >>= λ others. Some (first.0.0 ∷ others.0, others.1)) x e in
    let b = bind_some (items_at n a.0.0.1 a.0.1) (λ others. Some (a.0.0.0 ∷ others.0, others.1)) x a.2 in
    let s = slot_takes wide bytes a.0 a.1 in
    let t = items_take n a.0.0.1 a.0.1 b.0 b.1 in
    let whole : bytes ≡ flat_map item_text (a.0.0.0 ∷ b.0.0) ++ b.0.1 = rw flat_map-cons (joined bytes (item_text a.0.0.0) (flat_map item_text b.0.0) a.0.1 b.0.1 s.parts t.parts) in
    let made : List PoolItem × List ℕ = (a.0.0.0 ∷ b.0.0, b.0.1) in
    given_as (λ (y : List PoolItem × List ℕ). TakesItems (suc n) wide bytes y) made x b.2
    (record {
      each = (s.is_item, t.each);
      short = (s.short, t.short);
      holes = (s.hole, subst (λ (w : Bool). HasHoles w b.0.0) (sym s.wide_is) t.holes);
      count_is = omega (arith, t.count_is);
      parts = whole;
    })

items_again : (items : List PoolItem) (wide : Bool) (rest : List ℕ) → AllByRecursion IsItem items → AllByRecursion IsShort items → HasHoles wide items
    → items_at (length items) wide (flat_map item_text items ++ rest) ≡ Some (items, rest)
unfolding items_at
items_again [] wide rest each short holes = rw holes refl
items_again (item ∷ items) wide rest each short holes =
    let after = flat_map item_text items ++ rest in
    let regrouped : flat_map item_text (item ∷ items) ++ rest ≡ item_text item ++ after = ap (λ (x : List ℕ). x ++ rest) (flat_map-cons item_text item items) ∙ append_assoc (item_text item) (flat_map item_text items) rest in
    ap (items_at (length (item ∷ items)) wide) regrouped
    ∙ bind_is (slot_at wide (item_text item ++ after)) (λ first. items_at (length items) first.0.1 first.1 >>= λ x. Some (first.0.0 ∷ x.0, x.1)) ((item, is_wide item), after) (slot_again wide item after each.0 short.0 holes.0)
    ∙ bind_is (items_at (length items) (is_wide item) after) (λ x. Some (item ∷ x.0, x.1)) (items, rest) (items_again items (is_wide item) rest each.1 short.1 holes.1)

-- ---- links

linked_each : (all items : List PoolItem) → list_all (is_linked all) items ≡ true → AllByRecursion (λ item. IsTrue (is_linked all item)) items
linked_each all [] e = tt
linked_each all (item ∷ items) e =
    let t = and_parts (is_linked all item) (list_all (is_linked all) items) e in
    (t.0, linked_each all items t.1)

each_linked : (all items : List PoolItem) → AllByRecursion (λ item. IsTrue (is_linked all item)) items → list_all (is_linked all) items ≡ true
each_linked all [] h = refl
each_linked all (item ∷ items) h = rw (h.0, each_linked all items h.1) refl

-- ---- the pool

-- a pool that is read is spelled so
pub pool_takes : (bytes : List ℕ) (x : List PoolItem × List ℕ) → pool_at bytes ≡ Some x → BeginsWithPool bytes x.0 x.1
unfolding pool_at linked_at
pool_takes bytes x e =
    let a = bind_some (number_at 2 bytes) (λ count. cond (eqb count.0 0) None (linked_at (count.0 - 1) count.1)) x e in
    let g = past_false (eqb a.0.0 0) (linked_at (a.0.0 - 1) a.0.1) x a.2 in
    let b = bind_some (items_at (a.0.0 - 1) false a.0.1) (λ items. cond (list_all (is_linked items.0) items.0) (Some items) None) x g.1 in
    let l = past_true (list_all (is_linked b.0.0) b.0.0) (Some b.0) x b.2 in
    let s = number_takes 2 bytes a.0 a.1 in
    let t = items_take (a.0.0 - 1) false a.0.1 b.0 b.1 in
    let not_zero : a.0.0 ≡ 0 → ⊥ = eqb-false a.0.0 0 g.0 in
    let count_is : a.0.0 ≡ 1 + length b.0.0 = omega (arith, t.count_is, not_zero) in
    let fits : 1 + length b.0.0 < 2 ^ 16 = omega (arith, count_is, s.1) in
    let whole : bytes ≡ pool_text b.0.0 ++ b.0.1 = joined bytes (u2 (1 + length b.0.0)) (flat_map item_text b.0.0) a.0.1 b.0.1 (s.0 ∙ ap (λ (k : ℕ). u2 k ++ a.0.1) count_is) t.parts in
    let is_pool : IsPool b.0.0 = record { each = t.each; holes = t.holes; linked = linked_each b.0.0 b.0.0 l.0 } in
    given_as (λ (y : List PoolItem × List ℕ). BeginsWithPool bytes y.0 y.1) b.0 x l.1
    (record { front = pool_text b.0.0; is_text = record { is_pool = is_pool; count = fits; short = t.short; spelled = refl }; parts = whole })

-- a pool is read again, whatever follows
pub pool_again : (items : List PoolItem) (rest : List ℕ) → IsPool items → 1 + length items < 2 ^ 16 → AllByRecursion IsShort items → pool_at (pool_text items ++ rest) ≡ Some (items, rest)
unfolding pool_at linked_at
pool_again items rest is_pool count short =
    let after = flat_map item_text items ++ rest in
    let not_zero : eqb (1 + length items) 0 ≡ false = ne_eqb (1 + length items) 0 (λ e. omega (arith, e)) in
    let k : (1 + length items) - 1 ≡ length items = omega arith in
    ap pool_at (append_assoc (u2 (1 + length items)) (flat_map item_text items) rest)
    ∙ bind_is (number_at 2 (u2 (1 + length items) ++ after)) (λ count. cond (eqb count.0 0) None (linked_at (count.0 - 1) count.1)) (1 + length items, after) (number_again 2 (1 + length items) after count)
    ∙ ap (λ (b : Bool). cond b None (linked_at ((1 + length items) - 1) after)) not_zero
    ∙ ap (λ (n : ℕ). linked_at n after) k
    ∙ bind_is (items_at (length items) false after) (λ x. cond (list_all (is_linked x.0) x.0) (Some x) None) (items, rest) (items_again items false rest is_pool.each short is_pool.holes)
    ∙ ap (λ (b : Bool). cond b (some_of (items, rest)) None) (each_linked items items is_pool.linked)
  where
    some_of : List PoolItem × List ℕ → Option (List PoolItem × List ℕ)
    some_of x = Some x

-- bytes that begin with a pool are read as it
pub pool_found : (bytes : List ℕ) (items : List PoolItem) (rest : List ℕ) → BeginsWithPool bytes items rest → pool_at bytes ≡ Some (items, rest)
pool_found bytes items rest h =
    ap pool_at (h.parts ∙ ap (λ (f : List ℕ). f ++ rest) h.is_text.spelled) ∙ pool_again items rest h.is_text.is_pool h.is_text.count h.is_text.short

-- no two pools stand at the front of the same bytes
pub pools_agree : (bytes : List ℕ) (a b : List PoolItem) (x y : List ℕ) → BeginsWithPool bytes a x → BeginsWithPool bytes b y → (a ≡ b) × (x ≡ y)
pools_agree bytes a b x y p q =
    let first : List PoolItem × List ℕ = (a, x) in
    let second : List PoolItem × List ℕ = (b, y) in
    let same : first ≡ second = some_is first second (sym (pool_found bytes a x p) ∙ pool_found bytes b y q) in
    (ap (λ (z : List PoolItem × List ℕ). z.0) same, ap (λ (z : List PoolItem × List ℕ). z.1) same)

-- all of the bytes of a pool
alone : (bytes : List ℕ) (items : List PoolItem) → IsPoolText bytes items → BeginsWithPool bytes items []
alone bytes items h = record { front = bytes; is_text = h; parts = sym (append-nil bytes) }

-- no bytes are the text of two pools
pub one_reading : (bytes : List ℕ) (a b : List PoolItem) → IsPoolText bytes a → IsPoolText bytes b → a ≡ b
one_reading bytes a b p q = (pools_agree bytes a b [] [] (alone bytes a p) (alone bytes b q)).0

-- no text of a pool is a front of another
pub no_front : (a b : List PoolItem) (front more : List ℕ) → IsPoolText front a → IsPoolText (front ++ more) b → more ≡ []
no_front a b front more p q = (pools_agree (front ++ more) a b more [] (record { front = front; is_text = p; parts = refl }) (alone (front ++ more) b q)).1

-- bytes of which nothing was read begin with no pool
pub is_refused : (bytes : List ℕ) → pool_at bytes ≡ None → (items : List PoolItem) (rest : List ℕ) → BeginsWithPool bytes items rest → ⊥
is_refused bytes none items rest b =
    let made : List PoolItem × List ℕ = (items, rest) in
    let found : none_read ≡ Some made = sym none ∙ pool_found bytes items rest b in
    absurd cc
  where
    none_read : Option (List PoolItem × List ℕ)
    none_read = None
