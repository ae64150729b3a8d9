-- Least numbers with a property, and one of several properties.
use Rattle.std.proofs.Common.{◌≡◌, ℕ, ◌+◌, ◌<◌, ◌≤◌, min, Option, Some, None, refl, subst, ◌⊎◌, inl, inr, arith}
use Rattle.std.proofs.lemmas.Bool.{cases_lt}
use Rattle.jv_read.proofs.Fronts.{some_is}
use Rattle.jv_insn.specs.Steps.Rows.{IsFirst, IsFirstOf, lesser}

module _ (P Q : ℕ → Type 0) where
  -- where nothing has the first property, the least with the second is the least with one of them
  pub first_right : (a : ℕ) → ((n : ℕ) → P n → ⊥) → IsFirst Q a → IsFirst (λ n. P n ⊎ Q n) a
  first_right a none q = record {
    holds = inr q.holds;
    least = λ other h. elim h [ inl p ↦ absurd (none other p) | inr h ↦ q.least other h ];
  }

  pub first_of_right : (o : Option ℕ) → ((n : ℕ) → P n → ⊥) → IsFirstOf Q o → IsFirstOf (λ n. P n ⊎ Q n) o
  first_of_right None none q = λ n h. elim h [ inl p ↦ none n p | inr h ↦ q n h ]
  first_of_right (Some a) none q = first_right a none q

  pub first_lesser : (a : ℕ) (o : Option ℕ) → IsFirst P a → IsFirstOf Q o → IsFirst (λ n. P n ⊎ Q n) (lesser o a)
  first_lesser a None p q = record {
    holds = inl p.holds;
    least = λ other h. elim h [ inl h ↦ p.least other h | inr h ↦ absurd (q other h) ];
  }
  first_lesser a (Some b) p q = first_both a b p q
    where
      first_both : (a b : ℕ) → IsFirst P a → IsFirst Q b → IsFirst (λ n. P n ⊎ Q n) (min b a)
      first_both a b p q = record {
        holds = by (cases_lt b (a + 1));
        least = λ other h. elim h [ inl h ↦ let le = p.least other h in omega arith | inr h ↦ let le = q.least other h in omega arith ];
      }
        where
          by : (b < a + 1) ⊎ (a + 1 ≤ b) → P (min b a) ⊎ Q (min b a)
          by (inl le) = let m : b ≡ min b a = omega arith in inr (subst Q m q.holds)
          by (inr le) = let m : a ≡ min b a = omega arith in inl (subst P m p.holds)

  pub first_either : (a b : ℕ) → IsFirst P a → IsFirst Q b → IsFirst (λ n. P n ⊎ Q n) (min a b)
  first_either a b p q = record {
    holds = by (cases_lt a (b + 1));
    least = λ other h. elim h [ inl h ↦ let le = p.least other h in omega arith | inr h ↦ let le = q.least other h in omega arith ];
  }
    where
      by : (a < b + 1) ⊎ (b + 1 ≤ a) → P (min a b) ⊎ Q (min a b)
      by (inl le) = let m : a ≡ min a b = omega arith in inl (subst P m p.holds)
      by (inr le) = let m : b ≡ min a b = omega arith in inr (subst Q m q.holds)

-- the number that there is, if there is one
pub first_given : (o : Option ℕ) → IsFirstOf (λ n. o ≡ Some n) o
first_given None = λ n e. absurd cc
first_given (Some a) = record { holds = refl; least = λ other e. let same = some_is a other e in omega arith }
