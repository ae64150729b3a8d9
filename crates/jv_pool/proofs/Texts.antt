-- Whether bytes are modified UTF-8, unit by unit.
use Rattle.std.proofs.Common.{◌≡◌, ℕ, Bool, true, false, cond, eqb, ◌&&◌, List, [], ◌∷◌, drop, length, refl, sym, ap, ◌∙◌, arith}
use Rattle.std.proofs.lemmas.Bool.{eqb-true}
use Rattle.jv_pool.specs.Steps.PoolReading.{is_one, is_two, is_three, unit_len, is_spelled}

-- ---- one unit after the other

-- the length of the first spelling of these three that stands there
abbrev first_len : Bool → Bool → Bool → ℕ
first_len p q r = cond p 1 (cond q 2 (cond r 3 0))

on_1 : (p : Bool) (a : ℕ) → (first_len p false false ≡ 0 → ⊥) → p ≡ is_spelled (drop (first_len p false false) (a ∷ []))
unfolding is_spelled
on_1 true a h = refl
on_1 false a h = absurd (h refl)

on_2 : (p q : Bool) (a b : ℕ) → (first_len p q false ≡ 0 → ⊥) → cond p (is_one b) q ≡ is_spelled (drop (first_len p q false) (a ∷ b ∷ []))
unfolding is_spelled
on_2 true q a b h = refl
on_2 false true a b h = refl
on_2 false false a b h = absurd (h refl)

on_3 : (p q r : Bool) (a b c : ℕ) (more : List ℕ) → (first_len p q r ≡ 0 → ⊥)
    → cond p (is_spelled (b ∷ c ∷ more)) (cond q (is_spelled (c ∷ more)) (r && is_spelled more)) ≡ is_spelled (drop (first_len p q r) (a ∷ b ∷ c ∷ more))
on_3 true q r a b c more h = refl
on_3 false true r a b c more h = refl
on_3 false false true a b c more h = refl
on_3 false false false a b c more h = absurd (h refl)

-- the first unit stands in front of the others
spelled_on : (bytes : List ℕ) → (unit_len bytes ≡ 0 → ⊥) → is_spelled bytes ≡ is_spelled (drop (unit_len bytes) bytes)
unfolding unit_len is_spelled
spelled_on [] h = absurd (h refl)
spelled_on (a ∷ []) h = on_1 (is_one a) a h
spelled_on (a ∷ b ∷ []) h = on_2 (is_one a) (is_two a b) a b h
spelled_on (a ∷ b ∷ c ∷ more) h = on_3 (is_one a) (is_two a b) (is_three a b c) a b c more h

stuck_1 : (p : Bool) → first_len p false false ≡ 0 → p ≡ false
stuck_1 true h = absurd cc
stuck_1 false h = refl

stuck_2 : (p q x : Bool) → first_len p q false ≡ 0 → cond p x q ≡ false
stuck_2 true q x h = absurd cc
stuck_2 false true x h = absurd cc
stuck_2 false false x h = refl

stuck_3 : (p q r x y z : Bool) → first_len p q r ≡ 0 → cond p x (cond q y (r && z)) ≡ false
stuck_3 true q r x y z h = absurd cc
stuck_3 false true r x y z h = absurd cc
stuck_3 false false true x y z h = absurd cc
stuck_3 false false false x y z h = refl

-- where no unit stands in front, the bytes are no units
spelled_stuck : (bytes : List ℕ) → eqb (length bytes) 0 ≡ false → unit_len bytes ≡ 0 → is_spelled bytes ≡ false
unfolding unit_len is_spelled
spelled_stuck [] some h = absurd cc
spelled_stuck (a ∷ []) some h = stuck_1 (is_one a) h
spelled_stuck (a ∷ b ∷ []) some h = stuck_2 (is_one a) (is_two a b) (is_one b) h
spelled_stuck (a ∷ b ∷ c ∷ more) some h = stuck_3 (is_one a) (is_two a b) (is_three a b c) (is_spelled (b ∷ c ∷ more)) (is_spelled (c ∷ more)) (is_spelled more) h

-- ---- the loop

-- one unit more was seen
pub goes_further : (len : ℕ) (rest bytes : List ℕ) → len ≡ unit_len rest → (len ≡ 0 → ⊥) → is_spelled rest ≡ is_spelled bytes → is_spelled (drop len rest) ≡ is_spelled bytes
goes_further len rest bytes e some so_far =
    ap (λ (n : ℕ). is_spelled (drop n rest)) e ∙ sym (spelled_on rest (λ z. some (e ∙ z))) ∙ so_far

-- no unit stands there
pub is_stuck : (len : ℕ) (rest bytes : List ℕ) → len ≡ unit_len rest → len ≡ 0 → false ≡ eqb (length rest) 0 → is_spelled rest ≡ is_spelled bytes → false ≡ is_spelled bytes
is_stuck len rest bytes e zero_len some so_far = sym (spelled_stuck rest (sym some) (sym e ∙ zero_len)) ∙ so_far

-- all units were seen
pub is_done : (rest bytes : List ℕ) → true ≡ eqb (length rest) 0 → is_spelled rest ≡ is_spelled bytes → true ≡ is_spelled bytes
unfolding is_spelled
is_done [] bytes none so_far = so_far
is_done (x ∷ xs) bytes none so_far = absurd (omega (arith, eqb-true (length (x ∷ xs)) 0 (sym none)))
