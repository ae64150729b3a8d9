-- Reading parts one after the other, as a loop does: what was read before, and what is still read.
use Rattle.std.proofs.Common.{◌≡◌, ℕ, List, [], ◌∷◌, ◌++◌, Option, Some, None, refl, ap, append_assoc}
use Rattle.jv_read.specs.Reading.{◌>>=◌}

-- what was read before, and what is still read
abbrev pub with_front : {A : Type 0} → List A → Option (List A × List ℕ) → Option (List A × List ℕ)
with_front front read = read >>= λ x. Some (front ++ x.0, x.1)

-- nothing was read yet
pub front_none : {A : Type 0} (front : List A) (read : Option (List A × List ℕ)) → front ≡ [] → with_front front read ≡ read
front_none {A} front (Some x) e = ap (λ (f : List A). Some (f ++ x.0, x.1)) e
front_none front None e = refl

-- one part more in front of the rest is one more at the end of what was read
pub regroup : {A : Type 0} (front : List A) (a : A) (read : Option (List A × List ℕ)) → with_front front (read >>= λ x. Some (a ∷ x.0, x.1)) ≡ with_front (front ++ a ∷ []) read
regroup {A} front a (Some x) = ap (λ (parts : List A). Some (parts, x.1)) (simp append_assoc)
regroup front a None = refl
