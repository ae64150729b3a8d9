-- The methods of a class that are plain, looked at in their order.
use Rattle.std.proofs.Common.{◌≡◌, ℕ, ◌+◌, ◌<◌, ◌≤◌, true, false, List, length, get_or, Contains, IsTrue, refl, sym, ◌∙◌, ap, subst, inl, inr, arith}
use Rattle.std.specs.Prelude.{◌↔◌}
use Rattle.std.proofs.lemmas.Bool.{cases_lt}
use Rattle.std.proofs.lemmas.List.{get_or_default}
use Rattle.jv_types.specs.declared.shapes.MethodShape.{MethodShape}
use Rattle.jv_types.specs.declared.shapes.Shape.{Shape}
use Rattle.av_conditions.specs.CoreClasses.{DeclaresPlain, IsPlain}

-- none of the first so many methods is plain
pub record NonePlain (methods : List MethodShape) (name : List ℕ) (n : ℕ) : Type 0 where
  pub none : (k : ℕ) (m : MethodShape) → k < n → k < length methods → get_or methods k m ≡ m → IsPlain name m → ⊥

pub plain_start : (methods : List MethodShape) (name : List ℕ) → NonePlain methods name 0
plain_start methods name = record { none = λ k m lt within is p. absurd (omega arith) }

pub plain_more : (methods : List MethodShape) (name : List ℕ) (n : ℕ) (method : MethodShape) → n < length methods → method ≡ get_or methods n method → (IsPlain name method → ⊥)
    → NonePlain methods name n → NonePlain methods name (n + 1)
plain_more methods name n method here is other before = record {
  none = λ k m lt within at p. elim (cases_lt k n) [
    | inl l ↦ before.none k m l within at p
    | inr g ↦
        let same : k ≡ n = omega arith in
        let one : m ≡ method = sym at ∙ ap (λ (j : ℕ). get_or methods j m) same ∙ get_or_default methods n m method here ∙ sym is in
        other (subst (IsPlain name) one p)
  ];
}

pub plain_found : (shape : Shape) (methods : List MethodShape) (name : List ℕ) (n : ℕ) (method : MethodShape) → methods ≡ shape.methods → n < length methods → method ≡ get_or methods n method
    → IsPlain name method → IsTrue true ↔ DeclaresPlain shape name
plain_found shape methods name n method all here is plain =
    (λ _. (method, subst (λ (l : List MethodShape). Contains l method) all (n, here, sym is), plain), λ _. refl)

pub plain_none : (shape : Shape) (methods : List MethodShape) (name : List ℕ) (n : ℕ) → methods ≡ shape.methods → length methods ≤ n → NonePlain methods name n → IsTrue false ↔ DeclaresPlain shape name
plain_none shape methods name n all past before = (
  λ t. absurd (let e : false ≡ true = t in cc),
  λ p.
      let among : Contains methods p.0 = subst (λ (l : List MethodShape). Contains l p.0) (sym all) p.1 in
      let lt : among.0 < n = omega (arith, among.1) in
      absurd (before.none among.0 p.0 lt among.1 among.2 p.2),
)
