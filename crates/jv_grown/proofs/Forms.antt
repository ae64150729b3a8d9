-- A pool stays one when an item whose parts stand comes behind.
use Rattle.std.proofs.Common.{◌≡◌, ℕ, ◌-◌, Bool, true, false, cond, eqb, ◌&&◌, List, [], ◌∷◌, ◌++◌, Option, Some, None, refl, sym, subst}
use Rattle.std.specs.Option.{option_map_or}
use Rattle.std.specs.List.{slice_get, AllByRecursion}
use Rattle.std.proofs.lemmas.Bool.{and_parts, and_from}
use Rattle.jv_lists.proofs.Among.{all_from}
use Rattle.jv_lists.proofs.Places.{get_front}
use Rattle.jv_pool.specs.declared.item.PoolItem.{PoolItem}
use Rattle.jv_pool.specs.declared.item.PoolItem.TheVariants as items
use Rattle.jv_pool.specs.Lookups.{names, is_utf8, is_class, is_name_and_type}
use Rattle.jv_pool.specs.PoolText.{IsItem, IsPool, HasHoles, is_hole, is_wide, is_linked, is_handled}
use Rattle.jv_pool.specs.Adding.{slots_of}

-- what an index names it names still
names_more : (test : PoolItem → Bool) (xs more : List PoolItem) (i : ℕ) → names test xs i ≡ true → names test (xs ++ more) i ≡ true
names_more test xs more i h = by_zero (eqb i 0) h
  where
    by_item : (o : Option PoolItem) → slice_get xs (i - 1) ≡ o → option_map_or test o false ≡ true → option_map_or test (slice_get (xs ++ more) (i - 1)) false ≡ true
    by_item None e h = absurd cc
    by_item (Some x) e h = rw (get_front xs more (i - 1) x e) h

    by_zero : (b : Bool) → option_map_or test (cond b None (slice_get xs (i - 1))) false ≡ true → option_map_or test (cond b None (slice_get (xs ++ more) (i - 1))) false ≡ true
    by_zero true h = absurd cc
    by_zero false h = by_item (slice_get xs (i - 1)) refl h

two_more : (p q : PoolItem → Bool) (xs more : List PoolItem) (i j : ℕ) → (names p xs i && names q xs j) ≡ true → (names p (xs ++ more) i && names q (xs ++ more) j) ≡ true
two_more p q xs more i j h =
    let both = and_parts (names p xs i) (names q xs j) h in
    and_from (names p (xs ++ more) i) (names q (xs ++ more) j) (names_more p xs more i both.0) (names_more q xs more j both.1)

-- the parts of an item stand still
linked_more : (xs more : List PoolItem) (x : PoolItem) → is_linked xs x ≡ true → is_linked (xs ++ more) x ≡ true
linked_more xs more (items.Utf8 bytes) h = refl
linked_more xs more (items.Integer n) h = refl
linked_more xs more (items.Float bits) h = refl
linked_more xs more (items.Long n) h = refl
linked_more xs more (items.Double bits) h = refl
linked_more xs more (items.Class name) h = names_more is_utf8 xs more name h
linked_more xs more (items.Text text) h = names_more is_utf8 xs more text h
linked_more xs more (items.Field class pair) h = two_more is_class is_name_and_type xs more class pair h
linked_more xs more (items.Method class pair) h = two_more is_class is_name_and_type xs more class pair h
linked_more xs more (items.InterfaceMethod class pair) h = two_more is_class is_name_and_type xs more class pair h
linked_more xs more (items.NameAndType name desc) h = two_more is_utf8 is_utf8 xs more name desc h
linked_more xs more (items.MethodHandle kind member) h = names_more (is_handled kind) xs more member h
linked_more xs more (items.MethodType desc) h = names_more is_utf8 xs more desc h
linked_more xs more (items.InvokeDynamic bootstrap pair) h = names_more is_name_and_type xs more pair h
linked_more xs more items.Hole h = refl

-- ---- all items

all_append : (P : PoolItem → Type 0) (xs ys : List PoolItem) → AllByRecursion P xs → AllByRecursion P ys → AllByRecursion P (xs ++ ys)
all_append P [] ys h k = k
all_append P (x ∷ xs) ys h k = (h.0, all_append P xs ys h.1 k)

all_slots : (P : PoolItem → Type 0) (item : PoolItem) → P item → P items.Hole → AllByRecursion P (slots_of item)
all_slots P item p hole = by (is_wide item)
  where
    by : (w : Bool) → AllByRecursion P (cond w (item ∷ items.Hole ∷ []) (item ∷ []))
    by true = (p, (hole, tt))
    by false = (p, tt)

-- ---- holes

holes_append : (w : Bool) (xs ys : List PoolItem) → HasHoles w xs → HasHoles false ys → HasHoles w (xs ++ ys)
holes_append w [] ys h k = subst (λ (b : Bool). HasHoles b ys) (sym h) k
holes_append w (x ∷ xs) ys h k = (h.0, holes_append (is_wide x) xs ys h.1 k)

holes_slots : (item : PoolItem) → is_hole item ≡ false → HasHoles false (slots_of item)
holes_slots item whole = by (is_wide item) refl
  where
    by : (b : Bool) → is_wide item ≡ b → HasHoles false (cond b (item ∷ items.Hole ∷ []) (item ∷ []))
    by true e = (whole, (sym e, refl))
    by false e = (whole, e)

-- the form of class files is kept
pub form_kept : (xs : List PoolItem) (item : PoolItem) → IsPool xs → IsItem item → is_linked xs item ≡ true → is_hole item ≡ false → IsPool (xs ++ slots_of item)
form_kept xs item h fits linked whole =
    let all : List PoolItem = xs ++ slots_of item in
    record {
      each = all_append IsItem xs (slots_of item) h.each (all_slots IsItem item fits tt);
      holes = holes_append false xs (slots_of item) h.holes (holes_slots item whole);
      linked = all_append (λ (x : PoolItem). is_linked all x ≡ true) xs (slots_of item)
          (all_from (λ (x : PoolItem). is_linked xs x ≡ true) (λ (x : PoolItem). is_linked all x ≡ true) (λ x l. linked_more xs (slots_of item) x l) xs h.linked)
          (all_slots (λ (x : PoolItem). is_linked all x ≡ true) item (linked_more xs (slots_of item) item linked) refl);
    }
