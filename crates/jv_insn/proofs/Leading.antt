-- Where offsets lead is one place.
use Rattle.std.proofs.Common.{◌≡◌, ℕ, ◌<◌, ℤ, pos, ◌+ℤ◌, List, [], ◌∷◌, length, get_or, refl, sym, ap, ◌∙◌}
use Rattle.std.specs.List.{AllZip}
use Rattle.jv_lists.proofs.Zips.{zip_at}
use Rattle.jv_insn.specs.Meanings.{LeadsTo, LeadsCase}

pub one_distance : (z : ℤ) (a b : ℕ) → z ≡ pos a → z ≡ pos b → a ≡ b
one_distance z a b e f = let same : pos a ≡ pos b = sym e ∙ f in (cc)

pub one_target : {I : Type 0} (rows : List (ℕ × I)) (pc : ℕ) (offset : ℤ) (a b : ℕ) → LeadsTo rows pc offset a → LeadsTo rows pc offset b → a ≡ b
one_target rows pc offset a b h k = one_distance (pos pc +ℤ offset) a b h.distance k.distance

-- pairs with one partner each
pub zip_one : {A B : Type 0} (R : A → B → Type 0) (xs : List A) (ys zs : List B) → ((x : A) (y z : B) → R x y → R x z → y ≡ z) → AllZip R xs ys → AllZip R xs zs → ys ≡ zs
zip_one R [] [] [] one h k = refl
zip_one R [] [] (z ∷ zs) one h k = absurd k
zip_one R [] (y ∷ ys) zs one h k = absurd h
zip_one R (x ∷ xs) [] zs one h k = absurd h
zip_one R (x ∷ xs) (y ∷ ys) [] one h k = absurd k
zip_one {A} {B} R (x ∷ xs) (y ∷ ys) (z ∷ zs) one h k =
    ap (λ (b : B). b ∷ ys) (one x y z h.0 k.0) ∙ ap (λ (bs : List B). z ∷ bs) (zip_one R xs ys zs one h.1 k.1)

pub one_case : {I : Type 0} (rows : List (ℕ × I)) (pc : ℕ) (read : ℤ × ℤ) (a b : ℤ × ℕ) → LeadsCase rows pc read a → LeadsCase rows pc read b → a ≡ b
one_case rows pc read a b h k =
    ap (λ (n : ℤ). (n, a.1)) (h.value ∙ sym k.value) ∙ ap (λ (t : ℕ). (b.0, t)) (one_target rows pc read.1 a.1 b.1 h.leads k.leads)

-- a place without a partner leaves the lists without one
pub zip_stuck : {A B : Type 0} (R : A → B → Type 0) (xs : List A) (i : ℕ) (d : A) → i < length xs → ((y : B) → R (get_or xs i d) y → ⊥) → (ys : List B) → AllZip R xs ys → ⊥
zip_stuck R xs i d lt none ys h = let partner = zip_at R xs ys i d h lt in none partner.0 partner.1
