-- A pool keeps the form of class files as items are put into it, and what it names stays.
use Rattle.std.proofs.Common.{◌≡◌, ℕ, zero, suc, ◌+◌, ◌<◌, ◌≤◌, Bool, true, false, cond, leb, List, [], ◌∷◌, ◌++◌, length, Option, Some, None, refl, sym, ap, subst, ◌∙◌, append_assoc, length-append, arith}
use Rattle.std.specs.Prelude.{option_and_then}
use Rattle.std.specs.Option.{option_map_or}
use Rattle.std.specs.List.{AllByRecursion}
use Rattle.std.proofs.lemmas.List.{append-nil}
use Rattle.std.proofs.lemmas.Option.{none-some, slice_get_within}
use Rattle.std.proofs.lemmas.Bool.{leb-true}
use Rattle.jv_lists.proofs.Among.{all_from}
use Rattle.jv_lists.proofs.Places.{get_front}
use Rattle.jv_pool.specs.declared.item.PoolItem.{PoolItem}
use Rattle.jv_pool.specs.declared.item.PoolItem.TheVariants as items
use Rattle.jv_pool.specs.Lookups.{item_at, names, text_in, text_at, class_name_in, class_name_at}
use Rattle.jv_pool.specs.PoolText.{IsItem, IsPool, IsShort, is_hole, is_wide, is_linked}
use Rattle.jv_pool.specs.Adding.{slots_of}
use Rattle.jv_pool.proofs.AddingLaws.{item_at-suc, place_found}
use Rattle.jv_names.specs.PoolNames.{HasText, HasClassName, HasNames, IsNamedItem, IsNamedPool}
use Rattle.jv_read.proofs.Fronts.{given_as, past_true}
use Rattle.jv_grown.proofs.Forms.{form_kept}
use Rattle.jv_insn.specs.Entries.{put_item, Grows}
use Rattle.jv_insn.proofs.Placing.{place_by, put_found, put_behind}
use Rattle.jv_insn.proofs.Placed.{item_put}

-- ---- what stands at an index stands there still

pub item_more : (xs more : List PoolItem) (i : ℕ) (x : PoolItem) → item_at xs i ≡ Some x → item_at (xs ++ more) i ≡ Some x
item_more xs more zero x e = absurd (none-some x e)
item_more xs more (suc j) x e = item_at-suc (xs ++ more) j ∙ get_front xs more j x (sym (item_at-suc xs j) ∙ e)

pub index_within : (xs : List PoolItem) (i : ℕ) (x : PoolItem) → item_at xs i ≡ Some x → i ≤ length xs
index_within xs zero x e = absurd (none-some x e)
index_within xs (suc j) x e = omega (arith, slice_get_within xs j x (sym (item_at-suc xs j) ∙ e))

pub names_more : (test : PoolItem → Bool) (xs more : List PoolItem) (i : ℕ) → names test xs i ≡ true → names test (xs ++ more) i ≡ true
names_more test xs more i e = by (item_at xs i) refl e
  where
    by : (o : Option PoolItem) → item_at xs i ≡ o → option_map_or test o false ≡ true → option_map_or test (item_at (xs ++ more) i) false ≡ true
    by None is e = absurd cc
    by (Some x) is e = ap (λ (o : Option PoolItem). option_map_or test o false) (item_more xs more i x is) ∙ e

pub text_more : (xs more : List PoolItem) (i : ℕ) (text : List ℕ) → text_at xs i ≡ Some text → text_at (xs ++ more) i ≡ Some text
text_more xs more i text e = by (item_at xs i) refl e
  where
    by : (o : Option PoolItem) → item_at xs i ≡ o → option_and_then text_in o ≡ Some text → option_and_then text_in (item_at (xs ++ more) i) ≡ Some text
    by None is e = absurd cc
    by (Some x) is e = ap (option_and_then text_in) (item_more xs more i x is) ∙ e

class_in_more : (xs more : List PoolItem) (x : PoolItem) (text : List ℕ) → class_name_in xs x ≡ Some text → class_name_in (xs ++ more) x ≡ Some text
class_in_more xs more (items.Class name) text e = text_more xs more name text e
class_in_more xs more _ text e = absurd cc

pub class_more : (xs more : List PoolItem) (i : ℕ) (text : List ℕ) → class_name_at xs i ≡ Some text → class_name_at (xs ++ more) i ≡ Some text
class_more xs more i text e = by (item_at xs i) refl e
  where
    by : (o : Option PoolItem) → item_at xs i ≡ o → option_and_then (class_name_in xs) o ≡ Some text → option_and_then (class_name_in (xs ++ more)) (item_at (xs ++ more) i) ≡ Some text
    by None is e = absurd cc
    by (Some x) is e = ap (option_and_then (class_name_in (xs ++ more))) (item_more xs more i x is) ∙ class_in_more xs more x text e

pub has_text_more : (xs more : List PoolItem) (i : ℕ) (Kind : List ℕ → Type 0) → HasText xs i Kind → HasText (xs ++ more) i Kind
has_text_more xs more i Kind h = record { text = h.text; found = text_more xs more i h.text h.found; kind = h.kind }

pub has_class_more : (xs more : List PoolItem) (i : ℕ) → HasClassName xs i → HasClassName (xs ++ more) i
has_class_more xs more i h = record { text = h.text; found = class_more xs more i h.text h.found; kind = h.kind }

pub has_names_more : (xs more : List PoolItem) (i : ℕ) (Name Descriptor : List ℕ → Type 0) → HasNames xs i Name Descriptor → HasNames (xs ++ more) i Name Descriptor
has_names_more xs more i Name Descriptor h = record {
  name_index = h.name_index;
  desc_index = h.desc_index;
  found = item_more xs more i (items.NameAndType h.name_index h.desc_index) h.found;
  name = has_text_more xs more h.name_index Name h.name;
  descriptor = has_text_more xs more h.desc_index Descriptor h.descriptor;
}

named_more : (xs more : List PoolItem) (x : PoolItem) → IsNamedItem xs x → IsNamedItem (xs ++ more) x
named_more xs more (items.Class name) h = has_text_more xs more name _ h
named_more xs more (items.Field class pair) h = has_names_more xs more pair _ _ h
named_more xs more (items.Method class pair) h = has_names_more xs more pair _ _ h
named_more xs more (items.InterfaceMethod class pair) h = has_names_more xs more pair _ _ h
named_more xs more (items.Utf8 bytes) h = tt
named_more xs more (items.Integer n) h = tt
named_more xs more (items.Float bits) h = tt
named_more xs more (items.Long n) h = tt
named_more xs more (items.Double bits) h = tt
named_more xs more (items.Text text) h = tt
named_more xs more (items.NameAndType name desc) h = tt
named_more xs more (items.MethodHandle kind member) h = tt
named_more xs more (items.MethodType desc) h = tt
named_more xs more (items.InvokeDynamic bootstrap pair) h = tt
named_more xs more items.Hole h = tt

-- ---- a pool that grew

-- what holds over a pool and each longer one holds over a pool to which it grew
pub later : (P : List PoolItem → Type 0) (old new : List PoolItem) → ((more : List PoolItem) → P (old ++ more)) → Grows old new → P new
later P old new all g = subst P (sym g.1) (all g.0)

pub text_later : (old new : List PoolItem) (i : ℕ) (text : List ℕ) → Grows old new → text_at old i ≡ Some text → text_at new i ≡ Some text
text_later old new i text g e = later (λ (p : List PoolItem). text_at p i ≡ Some text) old new (λ more. text_more old more i text e) g

pub names_later : (test : PoolItem → Bool) (old new : List PoolItem) (i : ℕ) → Grows old new → names test old i ≡ true → names test new i ≡ true
names_later test old new i g e = later (λ (p : List PoolItem). names test p i ≡ true) old new (λ more. names_more test old more i e) g

pub has_text_later : (old new : List PoolItem) (i : ℕ) (Kind : List ℕ → Type 0) → Grows old new → HasText old i Kind → HasText new i Kind
has_text_later old new i Kind g h = later (λ (p : List PoolItem). HasText p i Kind) old new (λ more. has_text_more old more i Kind h) g

pub has_class_later : (old new : List PoolItem) (i : ℕ) → Grows old new → HasClassName old i → HasClassName new i
has_class_later old new i g h = later (λ (p : List PoolItem). HasClassName p i) old new (λ more. has_class_more old more i h) g

pub has_names_later : (old new : List PoolItem) (i : ℕ) (Name Descriptor : List ℕ → Type 0) → Grows old new → HasNames old i Name Descriptor → HasNames new i Name Descriptor
has_names_later old new i Name Descriptor g h = later (λ (p : List PoolItem). HasNames p i Name Descriptor) old new (λ more. has_names_more old more i Name Descriptor h) g

-- ---- pools of files

-- a pool as a file has it: its items have the form of class files, and texts and indices are short
pub record IsFilePool (pool : List PoolItem) : Type 0 where
  pub is_pool : IsPool pool
  pub named : IsNamedPool pool
  pub short : AllByRecursion IsShort pool
  pub few : length pool ≤ 65534

pub empty_pool : IsFilePool []
empty_pool = record { is_pool = record { each = tt; holes = refl; linked = tt }; named = tt; short = tt; few = omega arith }

-- a pool that grew and is one
pub record Grown (old new : List PoolItem) : Type 0 where
  pub good : IsFilePool new
  pub grows : Grows old new

pub grown_not : (pool : List PoolItem) → IsFilePool pool → Grown pool pool
grown_not pool g = record { good = g; grows = ([], sym (append-nil pool)) }

pub grows_on : (a b c : List PoolItem) → Grows a b → Grows b c → Grows a c
grows_on a b c g h = (g.0 ++ h.0, h.1 ∙ ap (λ (p : List PoolItem). p ++ h.0) g.1 ∙ append_assoc a g.0 h.0)

pub grown_on : (a b c : List PoolItem) → Grown a b → Grown b c → Grown a c
grown_on a b c g h = record { good = h.good; grows = grows_on a b c g.grows h.grows }

-- ---- one item more

-- an item that may come into a pool
pub record MayJoin (pool : List PoolItem) (item : PoolItem) : Type 0 where
  pub fits : IsItem item
  pub linked : is_linked pool item ≡ true
  pub whole : is_hole item ≡ false
  pub named : IsNamedItem pool item
  pub short : IsShort item

all_append : (P : PoolItem → Type 0) (xs ys : List PoolItem) → AllByRecursion P xs → AllByRecursion P ys → AllByRecursion P (xs ++ ys)
all_append P [] ys h k = k
all_append P (x ∷ xs) ys h k = (h.0, all_append P xs ys h.1 k)

all_slots : (P : PoolItem → Type 0) (item : PoolItem) → P item → P items.Hole → AllByRecursion P (slots_of item)
all_slots P item p hole = by (is_wide item)
  where
    by : (w : Bool) → AllByRecursion P (cond w (item ∷ items.Hole ∷ []) (item ∷ []))
    by true = (p, (hole, tt))
    by false = (p, tt)

item_behind : (old : List PoolItem) (item : PoolItem) → IsFilePool old → MayJoin old item → length old + length (slots_of item) ≤ 65534 → IsFilePool (old ++ slots_of item)
item_behind old item g m room =
    let all : List PoolItem = old ++ slots_of item in
    record {
      is_pool = form_kept old item g.is_pool m.fits m.linked m.whole;
      named = all_append (IsNamedItem all) old (slots_of item)
          (all_from (IsNamedItem old) (IsNamedItem all) (λ x n. named_more old (slots_of item) x n) old g.named)
          (all_slots (IsNamedItem all) item (named_more old (slots_of item) item m.named) tt);
      short = all_append IsShort old (slots_of item) g.short (all_slots IsShort item m.short tt);
      few = omega (arith, room, length-append old (slots_of item));
    }

-- an item that was put stands at its index, which fits two bytes
pub record IsJoined (item : PoolItem) (old new : List PoolItem) (i : ℕ) : Type 0 where
  pub grown : Grown old new
  pub at : item_at new i ≡ Some item
  pub small : i < 65536

joined_good : (item : PoolItem) (old : List PoolItem) (x : ℕ × List PoolItem) → IsFilePool old → MayJoin old item → put_item item old ≡ Some x → IsFilePool x.1
joined_good item old x g m e =
    place_by old item (IsFilePool x.1) m.whole
    (λ j at.
    let made : ℕ × List PoolItem = (j, old) in
    given_as (λ (y : ℕ × List PoolItem). IsFilePool y.1) made x (sym (put_found item old j at) ∙ e) g)
    (λ none.
    let made : ℕ × List PoolItem = (length old + 1, old ++ slots_of item) in
    let r = past_true (leb (length old + length (slots_of item)) 65534) (Some made) x (sym (put_behind item old none) ∙ e) in
    given_as (λ (y : ℕ × List PoolItem). IsFilePool y.1) made x r.1
    (item_behind old item g m (leb-true (length old + length (slots_of item)) 65534 r.0)))

pub item_joins : (item : PoolItem) (old : List PoolItem) (x : ℕ × List PoolItem) → IsFilePool old → MayJoin old item → put_item item old ≡ Some x → IsJoined item old x.1 x.0
item_joins item old x g m e =
    let p = item_put item old x m.whole e in
    let good = joined_good item old x g m e in
    let at = place_found x.1 item x.0 p.stands in
    record {
      grown = record { good = good; grows = p.grows };
      at = at;
      small = omega (arith, index_within x.1 x.0 item at, good.few);
    }
