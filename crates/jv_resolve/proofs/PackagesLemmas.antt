-- The package of a name that is read byte by byte.
use Rattle.std.proofs.Common.{◌≡◌, ℕ, ◌+◌, ◌<◌, Bool, true, false, cond, List, [], ◌∷◌, ◌++◌, length, get_or, take, ◌∙◌, ap, refl, eq-eqb}
use Rattle.std.specs.Prelude.{◌||◌}
use Rattle.std.specs.List.{list_any}
use Rattle.std.proofs.lemmas.Bool.{ne_eqb}
use Rattle.std.proofs.lemmas.List.{take_more}
use Rattle.jv_resolve.specs.Packages.{is_slash, package_of}

or_false : (b : Bool) → (b || false) ≡ b
or_false true = refl
or_false false = refl

or_true : (b : Bool) → (b || true) ≡ true
or_true true = refl
or_true false = refl

any_slash : (xs : List ℕ) (b : ℕ) → is_slash b ≡ true → list_any is_slash (xs ++ b ∷ []) ≡ true
any_slash [] b e = ap (λ z. z || false) e
any_slash (x ∷ xs) b e = ap (λ z. is_slash x || z) (any_slash xs b e) ∙ or_true (is_slash x)

any_other : (xs : List ℕ) (b : ℕ) → is_slash b ≡ false → list_any is_slash (xs ++ b ∷ []) ≡ list_any is_slash xs
any_other [] b e = ap (λ z. z || false) e
any_other (x ∷ xs) b e = ap (λ z. is_slash x || z) (any_other xs b e)

pub package_slash : (xs : List ℕ) (b : ℕ) → is_slash b ≡ true → package_of (xs ++ b ∷ []) ≡ xs
package_slash [] b e = refl
package_slash (x ∷ xs) b e = ap (λ z. cond z (x ∷ package_of (xs ++ b ∷ [])) []) (any_slash xs b e) ∙ ap (λ z. x ∷ z) (package_slash xs b e)

pub package_other : (xs : List ℕ) (b : ℕ) → is_slash b ≡ false → package_of (xs ++ b ∷ []) ≡ package_of xs
package_other [] b e = refl
package_other (x ∷ xs) b e = ap (λ z. cond z (x ∷ package_of (xs ++ b ∷ [])) []) (any_other xs b e) ∙ ap (λ z. cond (list_any is_slash xs) (x ∷ z) []) (package_other xs b e)

pub package_more_slash : (name : List ℕ) (k : ℕ) → k < length name → get_or name k 0 ≡ 47 → package_of (take (k + 1) name) ≡ take k name
package_more_slash name k lt e =
    ap package_of (take_more name k 0 lt) ∙ package_slash (take k name) (get_or name k 0) (eq-eqb (get_or name k 0) 47 e)

pub package_more_other : (name : List ℕ) (k : ℕ) → k < length name → (get_or name k 0 ≡ 47 → ⊥) → package_of (take (k + 1) name) ≡ package_of (take k name)
package_more_other name k lt differs =
    ap package_of (take_more name k 0 lt) ∙ package_other (take k name) (get_or name k 0) (ne_eqb (get_or name k 0) 47 differs)
