-- How counts go on over several calls.
use Rattle.std.proofs.Common.{◌≡◌, ◌<◌, ◌≤◌, ◌⊎◌, inl, inr, ℕ, Option, Some, None, option_map, IfSome, arith, refl, subst, sym}
use Rattle.std.proofs.lemmas.Bool.{cases_order}
use Rattle.jv_host.specs.Counts.{Rises}

-- a count that rises later has risen since earlier
pub Rises-after : (a b c : ℕ) → a ≤ b → Rises b c → Rises a c
Rises-after a b c h (inl less) = inl (omega arith)
Rises-after a b c h (inr last) = inr last

-- a count at its last value, or above it, has risen
above_last : (a b c : ℕ) → a ≤ b → b ≡ 18446744073709551615 → (b ≡ c) ⊎ ((b < c) ⊎ (c < b)) → b ≤ c → Rises a c
above_last a b c h last (inl same) kept = inr (omega arith)
above_last a b c h last (inr (inl more)) kept = inl (omega arith)
above_last a b c h last (inr (inr less)) kept = absurd (omega arith)

-- a count that has risen and doesn't fall has risen
pub Rises-before : (a b c : ℕ) → a ≤ b → Rises a b → b ≤ c → Rises a c
Rises-before a b c h (inl less) kept = inl (omega arith)
Rises-before a b c h (inr last) kept = above_last a b c h last (cases_order b c) kept

-- where the last failed call is told, it is the one that failed now
pub told_failure : {X : Type 0} (call : X) (before now : Option X) → now ≡ option_map (λ _. call) before → IfSome now (λ last. last ≡ call)
told_failure call None now e = subst (λ o. IfSome o (λ last. last ≡ call)) (sym e) tt
told_failure call (Some last) now e = subst (λ o. IfSome o (λ last. last ≡ call)) (sym e) refl
