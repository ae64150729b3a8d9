-- Items of a pool, and the pool to which one is added.
use Rattle.std.proofs.Common.{◌≡◌, ℕ, ◌+◌, ◌<◌, ◌≤◌, true, false, leb, List, [], ◌++◌, length, Option, Some, None, refl, sym, ap, ◌∙◌, length-append, arith}
use Rattle.std.proofs.lemmas.List.{append-nil}
use Rattle.std.proofs.lemmas.Bool.Decides.{nat_tests}
use Rattle.jv_pool.specs.declared.item.PoolItem.{PoolItem}
use Rattle.jv_pool.specs.PoolText.{is_hole}
use Rattle.jv_pool.specs.Adding.{slots_of, HasItem, place_of}
use Rattle.jv_pool.proofs.AddingLaws.{place_found, place_none}
use Rattle.jv_insn.specs.Entries.{put_last, put_item, Grows}

-- ---- one item

-- the place of an item, and that it stands nowhere
pub place_by : (pool : List PoolItem) (item : PoolItem) (P : Type 0) → is_hole item ≡ false → ((i : ℕ) → place_of pool item ≡ Some i → P) → (place_of pool item ≡ None → P) → P
place_by pool item P whole some none = by (place_of pool item) refl
  where
    by : (o : Option ℕ) → place_of pool item ≡ o → P
    by (Some i) e = some i e
    by None e = none e

pub put_found : (item : PoolItem) (pool : List PoolItem) (i : ℕ) → place_of pool item ≡ Some i → put_item item pool ≡ Some (i, pool)
unfolding put_item
put_found item pool i e = rw e refl

pub put_behind : (item : PoolItem) (pool : List PoolItem) → place_of pool item ≡ None → put_item item pool ≡ put_last item pool
unfolding put_item
put_behind item pool e = rw e refl

one_index : (o : Option ℕ) (i j : ℕ) → o ≡ Some i → o ≡ Some j → i ≡ j
one_index o i j e f = let same : (Some i) ≡ Some j = sym e ∙ f in cc

-- what adding an item answers
pub added_is : (item : PoolItem) (old new : List PoolItem) (i : ℕ) → is_hole item ≡ false → place_of new item ≡ Some i → (HasItem old item → new ≡ old)
    → ((HasItem old item → ⊥) → (new ≡ old ++ slots_of item) × (i ≡ length old + 1)) → length new ≤ 65534 → put_item item old ≡ Some (i, new)
added_is item old new i whole first kept grown within =
    place_by old item (put_item item old ≡ Some (i, new)) whole
    (λ j e.
    let same : new ≡ old = kept (j, place_found old item j e) in
    let index : j ≡ i = one_index (place_of old item) j i e (ap (λ (p : List PoolItem). place_of p item) (sym same) ∙ first) in
    put_found item old j e ∙ ap (λ (k : ℕ). Some (k, old)) index ∙ ap (λ (p : List PoolItem). Some (i, p)) (sym same))
    (λ e.
    let g = grown (place_none old item whole e) in
    let room : leb (length old + length (slots_of item)) 65534 ≡ true = grind (arith, nat_tests, within, ap length g.0, length-append old (slots_of item)) in
    put_behind item old e ∙ rw room (ap (λ (k : ℕ). Some (k, old ++ slots_of item)) (sym g.1) ∙ ap (λ (p : List PoolItem). Some (i, p)) (sym g.0)))

pub added_grows : (item : PoolItem) (old new : List PoolItem) (i : ℕ) → is_hole item ≡ false → (HasItem old item → new ≡ old)
    → ((HasItem old item → ⊥) → (new ≡ old ++ slots_of item) × (i ≡ length old + 1)) → Grows old new
added_grows item old new i whole kept grown =
    place_by old item (Grows old new) whole
    (λ j e. ([], kept (j, place_found old item j e) ∙ sym (append-nil old)))
    (λ e. (slots_of item, (grown (place_none old item whole e)).0))

pub full_is : (item : PoolItem) (old : List PoolItem) → is_hole item ≡ false → (HasItem old item → ⊥) → 65534 < length old + length (slots_of item) → put_item item old ≡ None
full_is item old whole absent over =
    place_by old item (put_item item old ≡ None) whole
    (λ j e. absurd (absent (j, place_found old item j e)))
    (λ e. let none : leb (length old + length (slots_of item)) 65534 ≡ false = grind (arith, nat_tests) in put_behind item old e ∙ rw none refl)
