-- A constant pool that is read is spelled so, and what is spelled so is read.
use Rattle.std.proofs.Common.{◌≡◌, ℕ, zero, suc, ◌+◌, ◌-◌, ◌^◌, ◌<◌, Bool, true, false, cond, eqb, List, [], ◌∷◌, ◌++◌, Some, None, refl, sym, ap, subst, ◌∙◌, append_assoc, arith}
use Rattle.std.specs.List.{flat_map, AllByRecursion}
use Rattle.std.proofs.lemmas.Bool.{eqb-false, ne_eqb}
use Rattle.std.proofs.lemmas.List.Concat.{flat_map-cons}
use Rattle.calls_form.specs.declared.outline.Entry.{Entry}
use Rattle.calls_form.specs.declared.outline.Entry.TheVariants as entry
use Rattle.calls_form.specs.Layout.{u2, Item, item_text, IsItem, is_wide, index_count}
use Rattle.calls_form.specs.Outlines.{entry_of, entries_of}
use Rattle.calls_form.specs.Reading.{◌>>=◌, u2_at}
use Rattle.calls_form.specs.LayoutReading.{item_at, slot_at, entries_at, indexed_at, pool_at}
use Rattle.calls_form.proofs.LayoutFields.{IsBytes, bind_some, given_as, past_false, Takes, Takes-none, Takes-then, u2_takes, u2_again}
use Rattle.calls_form.proofs.LayoutItems.{bind_is, item_takes, item_again}

-- the entries of items behind one that takes the next index too, or doesn't
spread : Bool → List Item → List Entry
spread true items = entry.Unused ∷ entries_of items
spread false items = entries_of items

-- items stand at the front, and this is kept of them
record TakesItems (n : ℕ) (wide : Bool) (bytes : List ℕ) (x : List Entry × List ℕ) : Type 0 where
  items : List Item
  are_items : AllByRecursion IsItem items
  taken : Takes bytes (flat_map item_text items) x.1
  count_is : cond wide 1 0 + index_count items ≡ n
  entries_are : spread wide items ≡ x.0

-- the indices of an item and of those behind it
count_more : (wide : Bool) (k n : ℕ) → cond wide 1 0 + k ≡ n → 0 + (cond wide 2 1 + k) ≡ suc n
count_more true k n e = omega arith
count_more false k n e = omega arith

-- the entries of an item and of those behind it
entries_more : (w wide : Bool) (e first : Entry) (items : List Item) (others : List Entry) → w ≡ wide → e ≡ first → spread wide items ≡ others
    → cond w (e ∷ entry.Unused ∷ entries_of items) (e ∷ entries_of items) ≡ first ∷ others
unfolding spread
entries_more true true e first items others p q r = ap (λ (f : Entry). f ∷ entry.Unused ∷ entries_of items) q ∙ ap (λ (es : List Entry). first ∷ es) r
entries_more true false e first items others p q r = absurd cc
entries_more false true e first items others p q r = absurd cc
entries_more false false e first items others p q r = ap (λ (f : Entry). f ∷ entries_of items) q ∙ ap (λ (es : List Entry). first ∷ es) r

-- entries that are read are those of items that are spelled so
entries_take : (n : ℕ) (wide : Bool) (bytes : List ℕ) (x : List Entry × List ℕ) → IsBytes bytes → entries_at n wide bytes ≡ Some x → TakesItems n wide bytes x
unfolding entries_at slot_at spread
entries_take zero true bytes x fits e = absurd cc
entries_take zero false bytes x fits e =
    given_as (λ (y : List Entry × List ℕ). TakesItems 0 false bytes y) ([], bytes) x e
    (record { items = []; are_items = tt; taken = Takes-none bytes fits; count_is = refl; entries_are = refl })
entries_take (suc n) true bytes x fits e =
    let b = bind_some (entries_at n false bytes) (λ others. Some (entry.Unused ∷ others.0, others.1)) x e in
    let r = entries_take n false bytes b.0 fits b.1 in
    let made : List Entry × List ℕ = (entry.Unused ∷ b.0.0, b.0.1) in
    given_as (λ (y : List Entry × List ℕ). TakesItems (suc n) true bytes y) made x b.2
    (record { items = r.items; are_items = r.are_items; taken = r.taken; count_is = omega (arith, r.count_is); entries_are = ap (λ (es : List Entry). entry.Unused ∷ es) r.entries_are })
entries_take (suc n) false bytes x fits e =
    let a = bind_some (item_at bytes) (λ first. entries_at n first.1 first.2 >>= λ others. Some (first.0 ∷ others.0, others.1)) x e in
    let b = bind_some (entries_at n a.0.1 a.0.2) (λ others. Some (a.0.0 ∷ others.0, others.1)) x a.2 in
    let t = item_takes bytes a.0 fits a.1 in
    let r = entries_take n a.0.1 a.0.2 b.0 t.taken.rest_fits b.1 in
    let both = Takes-then bytes (item_text t.item) a.0.2 (flat_map item_text r.items) b.0.1 t.taken r.taken in
    let counted : 0 + (cond (is_wide t.item) 2 1 + index_count r.items) ≡ suc n = subst (λ (w : Bool). 0 + (cond w 2 1 + index_count r.items) ≡ suc n) (sym t.wide_is) (count_more a.0.1 (index_count r.items) n r.count_is) in
    let listed : cond (is_wide t.item) (entry_of t.item ∷ entry.Unused ∷ entries_of r.items) (entry_of t.item ∷ entries_of r.items) ≡ a.0.0 ∷ b.0.0 =
    entries_more (is_wide t.item) a.0.1 (entry_of t.item) a.0.0 r.items b.0.0 t.wide_is t.entry_is r.entries_are in
    let made : List Entry × List ℕ = (a.0.0 ∷ b.0.0, b.0.1) in
    given_as (λ (y : List Entry × List ℕ). TakesItems (suc n) false bytes y) made x b.2
    (record { items = t.item ∷ r.items; are_items = (t.is_item, r.are_items); taken = rw flat_map-cons both; count_is = counted; entries_are = listed })

-- a pool stands at the front, and this is kept of it
pub record TakesPool (bytes : List ℕ) (x : List Entry × List ℕ) : Type 0 where
  pub items : List Item
  pub are_items : AllByRecursion IsItem items
  pub count : 1 + index_count items < 2 ^ 16
  pub taken : Takes bytes (u2 (1 + index_count items) ++ flat_map item_text items) x.1
  pub entries_are : x.0 ≡ entry.Unused ∷ entries_of items

-- a pool that is read is spelled so
pub pool_takes : (bytes : List ℕ) (x : List Entry × List ℕ) → IsBytes bytes → pool_at bytes ≡ Some x → TakesPool bytes x
unfolding pool_at indexed_at spread
pool_takes bytes x fits e =
    let a = bind_some (u2_at bytes) (λ count. cond (eqb count.0 0) None (indexed_at (count.0 - 1) count.1)) x e in
    let g = past_false (eqb a.0.0 0) (indexed_at (a.0.0 - 1) a.0.1) x a.2 in
    let b = bind_some (entries_at (a.0.0 - 1) false a.0.1) (λ entries. Some (entry.Unused ∷ entries.0, entries.1)) x g.1 in
    let t = u2_takes bytes a.0 fits a.1 in
    let r = entries_take (a.0.0 - 1) false a.0.1 b.0 t.0.rest_fits b.1 in
    let not_zero : a.0.0 ≡ 0 → ⊥ = eqb-false a.0.0 0 g.0 in
    let count_is : a.0.0 ≡ 1 + index_count r.items = omega (arith, r.count_is, not_zero) in
    let both = Takes-then bytes (u2 a.0.0) a.0.1 (flat_map item_text r.items) b.0.1 t.0 r.taken in
    let made : List Entry × List ℕ = (entry.Unused ∷ b.0.0, b.0.1) in
    given_as (λ (y : List Entry × List ℕ). TakesPool bytes y) made x b.2
    (record {
      items = r.items;
      are_items = r.are_items;
      count = omega (arith, count_is, t.1);
      taken = subst (λ (k : ℕ). Takes bytes (u2 k ++ flat_map item_text r.items) b.0.1) count_is both;
      entries_are = ap (λ (es : List Entry). entry.Unused ∷ es) (sym r.entries_are);
    })

-- an item and the items behind it are read one after the other
one_item_more : (wide : Bool) (n : ℕ) (bytes after rest : List ℕ) (e : Entry) (es : List Entry) → item_at bytes ≡ Some (e, wide, after) → entries_at n false after ≡ Some (es, rest)
    → entries_at (cond wide 2 1 + n) false bytes ≡ Some (cond wide (e ∷ entry.Unused ∷ es) (e ∷ es), rest)
unfolding entries_at slot_at
one_item_more true n bytes after rest e es h others =
    let k : 2 + n ≡ suc (suc n) = omega arith in
    let skipped : entries_at (suc n) true after ≡ Some (entry.Unused ∷ es, rest) = bind_is (entries_at n false after) (λ x. Some (entry.Unused ∷ x.0, x.1)) (es, rest) others in
    ap (λ (c : ℕ). entries_at c false bytes) k
    ∙ bind_is (item_at bytes) (λ first. entries_at (suc n) first.1 first.2 >>= λ x. Some (first.0 ∷ x.0, x.1)) (e, true, after) h
    ∙ bind_is (entries_at (suc n) true after) (λ x. Some (e ∷ x.0, x.1)) (entry.Unused ∷ es, rest) skipped
one_item_more false n bytes after rest e es h others =
    let k : 1 + n ≡ suc n = omega arith in
    ap (λ (c : ℕ). entries_at c false bytes) k
    ∙ bind_is (item_at bytes) (λ first. entries_at n first.1 first.2 >>= λ x. Some (first.0 ∷ x.0, x.1)) (e, false, after) h
    ∙ bind_is (entries_at n false after) (λ x. Some (e ∷ x.0, x.1)) (es, rest) others

-- items are read again, whatever follows
entries_again : (items : List Item) (rest : List ℕ) → AllByRecursion IsItem items → entries_at (index_count items) false (flat_map item_text items ++ rest) ≡ Some (entries_of items, rest)
unfolding entries_at
entries_again [] rest fits = refl
entries_again (item ∷ items) rest fits =
    let regrouped : flat_map item_text (item ∷ items) ++ rest ≡ item_text item ++ (flat_map item_text items ++ rest) = ap (λ (x : List ℕ). x ++ rest) (flat_map-cons item_text item items) ∙ append_assoc (item_text item) (flat_map item_text items) rest in
    ap (entries_at (index_count (item ∷ items)) false) regrouped
    ∙ one_item_more (is_wide item) (index_count items) (item_text item ++ (flat_map item_text items ++ rest)) (flat_map item_text items ++ rest) rest (entry_of item) (entries_of items) (item_again item (flat_map item_text items ++ rest) fits.0) (entries_again items rest fits.1)

-- a pool is read again, whatever follows
pub pool_again : (items : List Item) (rest : List ℕ) → AllByRecursion IsItem items → 1 + index_count items < 2 ^ 16
    → pool_at ((u2 (1 + index_count items) ++ flat_map item_text items) ++ rest) ≡ Some (entry.Unused ∷ entries_of items, rest)
unfolding pool_at indexed_at
pool_again items rest fits lt =
    let not_zero : eqb (1 + index_count items) 0 ≡ false = ne_eqb (1 + index_count items) 0 (λ e. omega (arith, e)) in
    let k : (1 + index_count items) - 1 ≡ index_count items = omega arith in
    bind_is (u2_at (u2 (1 + index_count items) ++ (flat_map item_text items ++ rest))) (λ count. cond (eqb count.0 0) None (indexed_at (count.0 - 1) count.1)) (1 + index_count items, flat_map item_text items ++ rest) (u2_again (1 + index_count items) (flat_map item_text items ++ rest) lt)
    ∙ ap (λ (b : Bool). cond b None (indexed_at ((1 + index_count items) - 1) (flat_map item_text items ++ rest))) not_zero
    ∙ ap (λ (c : ℕ). indexed_at c (flat_map item_text items ++ rest)) k
    ∙ bind_is (entries_at (index_count items) false (flat_map item_text items ++ rest)) (λ entries. Some (entry.Unused ∷ entries.0, entries.1)) (entries_of items, rest) (entries_again items rest fits)
