-- Each item stands once, when one that wasn't there comes behind.
use Rattle.std.proofs.Common.{◌≡◌, ℕ, zero, suc, ◌+◌, ◌⊎◌, inl, inr, Bool, true, false, cond, List, [], ◌∷◌, ◌++◌, length, Some, refl, sym, ap, ◌∙◌, arith}
use Rattle.std.specs.List.{slice_get}
use Rattle.std.proofs.lemmas.Option.{none-some}
use Rattle.jv_pool.specs.declared.item.PoolItem.{PoolItem}
use Rattle.jv_pool.specs.declared.item.PoolItem.TheVariants as items
use Rattle.jv_pool.specs.Lookups.{item_at}
use Rattle.jv_pool.specs.PoolText.{is_hole, is_wide}
use Rattle.jv_pool.specs.Adding.{HasItem, slots_of}
use Rattle.jv_read.proofs.Fronts.{some_is}
use Rattle.jv_pool.proofs.AddingLaws.{item_at-suc}
use Rattle.jv_grown.specs.Once.{AreOnce}

-- where the item of an index stands
record Stands (xs : List PoolItem) (i : ℕ) (x : PoolItem) : Type 0 where
  place : ℕ
  is : i ≡ suc place
  at : slice_get xs place ≡ Some x

stands : (xs : List PoolItem) (i : ℕ) (x : PoolItem) → item_at xs i ≡ Some x → Stands xs i x
stands xs zero x e = absurd (none-some x e)
stands xs (suc j) x e = record { place = j; is = refl; at = sym (item_at-suc xs j) ∙ e }

-- a place behind others
record Behind (front back : List PoolItem) (j : ℕ) (x : PoolItem) : Type 0 where
  more : ℕ
  sum : j ≡ length front + more
  there : slice_get back more ≡ Some x

-- what stands in two lists stands in one of them
split : (front back : List PoolItem) (j : ℕ) (x : PoolItem) → slice_get (front ++ back) j ≡ Some x → (slice_get front j ≡ Some x) ⊎ Behind front back j x
split [] back j x e = inr (record { more = j; sum = omega arith; there = e })
split (y ∷ ys) back zero x e = inl e
split (y ∷ ys) back (suc j) x e = by (split ys back j x e)
  where
    by : (slice_get ys j ≡ Some x) ⊎ Behind ys back j x → (slice_get (y ∷ ys) (suc j) ≡ Some x) ⊎ Behind (y ∷ ys) back (suc j) x
    by (inl h) = inl h
    by (inr b) = inr (record { more = b.more; sum = let s = b.sum in omega arith; there = b.there })

-- of what an item adds only the item is none that names nothing
record IsFirst (item x : PoolItem) (k : ℕ) : Type 0 where
  zeroth : k ≡ 0
  same : item ≡ x

slots_first : (item x : PoolItem) (k : ℕ) → is_hole x ≡ false → slice_get (slots_of item) k ≡ Some x → IsFirst item x k
slots_first item x k whole e = by (is_wide item) k e
  where
    by : (w : Bool) (k : ℕ) → slice_get (cond w (item ∷ items.Hole ∷ []) (item ∷ [])) k ≡ Some x → IsFirst item x k
    by true zero e = record { zeroth = refl; same = some_is item x e }
    by true (suc zero) e =
        let hole : items.Hole ≡ x = some_is items.Hole x e in
        let t : true ≡ false = ap is_hole hole ∙ whole in
        absurd cc
    by true (suc (suc k)) e = absurd (none-some x e)
    by false zero e = record { zeroth = refl; same = some_is item x e }
    by false (suc k) e = absurd (none-some x e)

-- each item is once still
pub once_kept : (xs : List PoolItem) (item : PoolItem) → AreOnce xs → (HasItem xs item → ⊥) → is_hole item ≡ false → AreOnce (xs ++ slots_of item)
once_kept xs item once absent whole i j x real ei ej = by si sj (split xs (slots_of item) si.place x si.at) (split xs (slots_of item) sj.place x sj.at)
  where
    si : Stands (xs ++ slots_of item) i x
    si = stands (xs ++ slots_of item) i x ei

    sj : Stands (xs ++ slots_of item) j x
    sj = stands (xs ++ slots_of item) j x ej

    nowhere : (k m : ℕ) → slice_get xs k ≡ Some x → slice_get (slots_of item) m ≡ Some x → ⊥
    nowhere k m old new =
        let f = slots_first item x m real new in
        absent (suc k, item_at-suc xs k ∙ old ∙ ap (λ (z : PoolItem). Some z) (sym f.same))

    by : (a : Stands (xs ++ slots_of item) i x) (b : Stands (xs ++ slots_of item) j x) → (slice_get xs a.place ≡ Some x) ⊎ Behind xs (slots_of item) a.place x → (slice_get xs b.place ≡ Some x) ⊎ Behind xs (slots_of item) b.place x → i ≡ j
    by a b (inl p) (inl q) =
        a.is ∙ once (suc a.place) (suc b.place) x real (item_at-suc xs a.place ∙ p) (item_at-suc xs b.place ∙ q) ∙ sym b.is
    by a b (inl p) (inr q) = absurd (nowhere a.place q.more p q.there)
    by a b (inr p) (inl q) = absurd (nowhere b.place p.more q p.there)
    by a b (inr p) (inr q) =
        let f = slots_first item x p.more real p.there in
        let g = slots_first item x q.more real q.there in
        omega (arith, a.is, b.is, p.sum, q.sum, f.zeroth, g.zeroth)

-- no items are each once
pub none_once : AreOnce []
none_once i j x real ei ej = absurd (none-some x (stands [] i x ei).at)
