-- What two searches for a method find alike, by parts.
use Rattle.std.proofs.Common.{◌≡◌, ℕ, ◌<◌, ◌⊎◌, List, length, subst, inl, inr}
use Rattle.std.specs.Prelude.{◌↔◌}
use Rattle.jv_types.specs.declared.ids.MethodId.{MethodId}
use Rattle.jv_types.specs.declared.shapes.Shape.{Shape}
use Rattle.jv_two_worlds.specs.Agreeing.{Agree}
use Rattle.jv_two_worlds.specs.Renumbering.{method_to}

-- P holds of a method of w exactly where Q holds of the one at the same place in v
pub record AlikeAt (w : List Shape) (to : ℕ → ℕ) (P Q : MethodId → Type 0) : Type 0 where
  pub into : (m : MethodId) → m.class.number < length w → P m → Q (method_to to m)
  pub back : (m : MethodId) → m.class.number < length w → Q (method_to to m) → P m

-- P finds a method of w exactly where Q finds the one at the same place in v, and Q finds no other
pub record FindAlike (w : List Shape) (to : ℕ → ℕ) (P Q : MethodId → Type 0) : Type 0 where
  pub here : (m : MethodId) → P m → m.class.number < length w
  pub into : (m : MethodId) → P m → Q (method_to to m)
  pub back : (n : MethodId) → Q n → (m : MethodId) × (n ≡ method_to to m) × P m

-- nothing is found here where nothing is found there
pub none_agree : {X : Type 0} {to : X → X} {P Q : X → Type 0} → Agree to P Q → ((x : X) → P x → ⊥) ↔ ((y : X) → Q y → ⊥)
none_agree {to} f = (λ none y q. let r = f.back y q in none r.0 r.2, λ none x p. none (to x) (f.into x p))

module _ {w : List Shape} {to : ℕ → ℕ} where
  pub agree : {P Q : MethodId → Type 0} → FindAlike w to P Q → Agree (method_to to) P Q
  agree f = record { into = f.into; back = f.back }

  pub none_alike : {P Q : MethodId → Type 0} → FindAlike w to P Q → ((m : MethodId) → P m → ⊥) ↔ ((n : MethodId) → Q n → ⊥)
  none_alike f = none_agree (agree f)

  pub either : {P Q R S : MethodId → Type 0} → FindAlike w to P Q → FindAlike w to R S → FindAlike w to (λ m. P m ⊎ R m) (λ n. Q n ⊎ S n)
  either {P} {Q} {R} {S} f g = record { here = here; into = into; back = back }
    where
      here : (m : MethodId) → P m ⊎ R m → m.class.number < length w
      here m (inl p) = f.here m p
      here m (inr p) = g.here m p

      into : (m : MethodId) → P m ⊎ R m → Q (method_to to m) ⊎ S (method_to to m)
      into m (inl p) = inl (f.into m p)
      into m (inr p) = inr (g.into m p)

      back : (n : MethodId) → Q n ⊎ S n → (m : MethodId) × (n ≡ method_to to m) × (P m ⊎ R m)
      back n (inl q) = let r = f.back n q in (r.0, r.1, inl r.2)
      back n (inr q) = let r = g.back n q in (r.0, r.1, inr r.2)

  -- found on a condition that holds in both or in neither
  pub guarded : {A B : Type 0} {P Q : MethodId → Type 0} → A ↔ B → FindAlike w to P Q → FindAlike w to (λ m. A × P m) (λ n. B × Q n)
  guarded k f = record {
    here = λ m p. f.here m p.1;
    into = λ m p. (k.0 p.0, f.into m p.1);
    back = λ n q. let r = f.back n q.1 in (r.0, r.1, (k.1 q.0, r.2));
  }

  -- found, and with a property that agrees
  pub with_alike : {P Q R S : MethodId → Type 0} → FindAlike w to P Q → AlikeAt w to R S → FindAlike w to (λ m. P m × R m) (λ n. Q n × S n)
  with_alike {P} {Q} {R} {S} f k = record {
    here = λ m p. f.here m p.0;
    into = λ m p. (f.into m p.0, k.into m (f.here m p.0) p.1);
    back = λ n q. let r = f.back n q.0 in (r.0, r.1, (r.2, k.back r.0 (f.here r.0 r.2) (subst S r.1 q.1)));
  }
