-- Sums over the names of lists.
use Rattle.std.proofs.Common.{◌≡◌, ℕ, ◌≤◌, List, [], ◌∷◌, sum_by, Contains, remove, sym, subst, ⊎_elim, arith}
use Rattle.std.specs.List.Sorted.{IsPermutation}
use Rattle.std.proofs.lemmas.List.Sums.{sum_by-cons}
use Rattle.std.proofs.lemmas.List.Sorted.{Contains-permutation, IsPermutation-remove, sum_by-IsPermutation}
use Rattle.av_asked.specs.Asking.{AreDistinct}
use Rattle.av_collected.proofs.Lists.{in_head, in_tail, of_cons}

-- equal at each name of the list
pub same_sum : (f g : List ℕ → ℕ) (names : List (List ℕ)) → ((name : List ℕ) → Contains names name → f name ≡ g name) → sum_by f names ≡ sum_by g names
same_sum f g [] same = omega arith
same_sum f g (name ∷ names) same =
    let first = same name (in_head name names) in
    let rest = same_sum f g names (λ other h. same other (in_tail name names other h)) in
    omega (arith, first, rest, sum_by-cons f name names, sum_by-cons g name names)

-- different names that are all in another list have no more together than those of that list
pub inside_le : (f : List ℕ → ℕ) (names others : List (List ℕ)) → AreDistinct names → ((name : List ℕ) → Contains names name → Contains others name)
    → sum_by f names ≤ sum_by f others
inside_le f [] others distinct inside = omega arith
inside_le f (name ∷ names) others distinct inside =
    let at = inside name (in_head name names) in
    let rest : List (List ℕ) = remove others at.0 in
    let same : IsPermutation others (name ∷ rest) = IsPermutation-remove others at.0 name at.1 (sym at.2) in
    let sums : sum_by f (name ∷ rest) ≡ sum_by f others = sum_by-IsPermutation f others (name ∷ rest) same in
    let le : sum_by f names ≤ sum_by f rest =
    inside_le f names rest distinct.1
    (λ other h.
    ⊎_elim
    (λ e. absurd (distinct.0 (subst (Contains names) (sym e) h)))
    (λ later. later)
    (of_cons name rest other (Contains-permutation others (name ∷ rest) other same (inside other (in_tail name names other h))))) in
    omega (arith, sums, le, sum_by-cons f name names, sum_by-cons f name rest)
