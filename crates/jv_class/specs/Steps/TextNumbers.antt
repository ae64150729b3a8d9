-- Numbers of texts: equal texts have one number, and others have others.
use Rattle.std.specs.Prelude.{◌≡◌, ℕ, List, length, Option, Some, None, unwrap_or, if◌then◌else◌}
use Rattle.std.specs.Borrow.{Bor}
use Rattle.std.specs.List.{slice_get}
use Rattle.std.specs.Ordering.{nat_cmp}
use Rattle.std.specs.Cmp.Lexicographic.{slice_cmp}
use Rattle.std.specs.Str.{bytes_eq}
use Rattle.std.specs.Option.{option_and_then}
use Rattle.std.specs.BTreeMap.{BTreeMap, get_by}
use Rattle.jv_pool.specs.declared.item.PoolItem.{PoolItem}
use Rattle.jv_pool.specs.Lookups.{text_in}

-- the number of a text, where it has one
abbrev pub number_in : BTreeMap (Bor (List ℕ)) ℕ → List ℕ → Option ℕ
number_in numbers text = get_by (λ k. slice_cmp nat_cmp text k.now) numbers

-- the text has this number now, and every other text has what it had
abbrev pub Numbers : BTreeMap (Bor (List ℕ)) ℕ → BTreeMap (Bor (List ℕ)) ℕ → List ℕ → ℕ → Type 0
Numbers old new text number = (other : List ℕ) → number_in new other ≡ (if bytes_eq text other then Some number else number_in old other)

-- the same of an item, which has a text or none: a text that has no number yet has the new one
abbrev pub NumbersItem : BTreeMap (Bor (List ℕ)) ℕ → BTreeMap (Bor (List ℕ)) ℕ → Option (List ℕ) → ℕ → ℕ → Type 0
NumbersItem old now (Some text) new number = (number ≡ unwrap_or (number_in old text) new) × Numbers old now text number
NumbersItem old now None new number = (number ≡ new) × ((other : List ℕ) → number_in now other ≡ number_in old other)

-- the text at a place of the pool
abbrev pub text_of : List PoolItem → ℕ → Option (List ℕ)
text_of items place = option_and_then text_in (slice_get items place)

-- texts have one number exactly where they are equal
pub record AreNumbers (items : List PoolItem) (numbers : List ℕ) : Type 0 where
  pub len : length numbers ≡ length items
  pub same : (i j m : ℕ) (a b : List ℕ) → text_of items i ≡ Some a → text_of items j ≡ Some b → slice_get numbers i ≡ Some m → slice_get numbers j ≡ Some m → a ≡ b
  pub one : (i j m n : ℕ) (a : List ℕ) → text_of items i ≡ Some a → text_of items j ≡ Some a → slice_get numbers i ≡ Some m → slice_get numbers j ≡ Some n → m ≡ n
