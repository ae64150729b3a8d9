-- What the answer of a test says, and what an option has.
use Rattle.std.proofs.Common.{◌≡◌, ℕ, suc, Bool, true, false, not, Option, Some, None, IsSome, refl}
use Rattle.std.specs.Prelude.{◌&&◌, ◌||◌, is_none, option_map}
use Rattle.std.specs.Ordering.{is_eq}
use Rattle.std.specs.declared.cmp.Ordering.{Ordering}
use Rattle.std.specs.declared.cmp.Ordering.TheVariants.{Less, Equal, Greater}

-- ---- tests

-- both pass together where each does
pub both_true : (a b : Bool) → a ≡ true → b ≡ true → (a && b) ≡ true
both_true true b e f = f
both_true false b e f = absurd cc

-- where neither passes, each fails
pub both_false : (a b : Bool) → (a || b) ≡ false → (a ≡ false) × (b ≡ false)
both_false true b e = absurd cc
both_false false b e = (refl, e)

pub not_true : (b : Bool) → not b ≡ true → b ≡ false
not_true true e = absurd cc
not_true false e = refl

-- what holds where a test is passed
pub where_true : (b c : Bool) → b ≡ true → (not b || c) ≡ true → c ≡ true
where_true true c t h = h
where_true false c t h = absurd cc

-- two that compare as equal do so by the one order that says so
pub is_eq-Equal : (o : Ordering) → is_eq o ≡ true → o ≡ Equal
is_eq-Equal Less e = absurd cc
is_eq-Equal Equal e = refl
is_eq-Equal Greater e = absurd cc

-- ---- options

pub none_is : {X : Type 0} (o : Option X) → is_none o ≡ true → o ≡ None
none_is None e = refl
none_is (Some x) e = absurd cc

-- the value that an option has
pub value_of : {X : Type 0} (o : Option X) → IsSome o → (x : X) × (o ≡ Some x)
value_of None s = absurd cc
value_of (Some x) s = (x, refl)

-- the number before one that is the next of another
pub suc_some : (o : Option ℕ) (p : ℕ) → option_map suc o ≡ Some p → (q : ℕ) × (o ≡ Some q) × (suc q ≡ p)
suc_some None p e = absurd cc
suc_some (Some q) p e = (q, refl, cc)
