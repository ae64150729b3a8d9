-- The elements of a list, looked at in their order, until one has a property.
use Rattle.std.proofs.Common.{◌≡◌, ℕ, ◌+◌, ◌<◌, ◌≤◌, Bool, true, false, List, length, get_or, Contains, IsTrue, sym, ◌∙◌, ap, subst, inl, inr, arith}
use Rattle.std.proofs.lemmas.Bool.{cases_lt}
use Rattle.std.proofs.lemmas.List.{get_or_default}

-- none of the first so many has it
pub record NoneAmong {X : Type 0} (P : X → Type 0) (xs : List X) (n : ℕ) : Type 0 where
  pub none : (k : ℕ) (x : X) → k < n → k < length xs → get_or xs k x ≡ x → P x → ⊥

pub none_start : {X : Type 0} (P : X → Type 0) (xs : List X) → NoneAmong P xs 0
none_start P xs = record { none = λ k m lt within is p. absurd (omega arith) }

pub none_more : {X : Type 0} (P : X → Type 0) (xs : List X) (n : ℕ) (x : X) → n < length xs → x ≡ get_or xs n x → (P x → ⊥) → NoneAmong P xs n → NoneAmong P xs (n + 1)
none_more P xs n x here is other before = record {
  none = λ k m lt within at p. elim (cases_lt k n) [
    | inl l ↦ before.none k m l within at p
    | inr g ↦
        let same : k ≡ n = omega arith in
        let one : m ≡ x = sym at ∙ ap (λ (j : ℕ). get_or xs j m) same ∙ get_or_default xs n m x here ∙ sym is in
        other (subst P one p)
  ];
}

pub none_of_all : {X : Type 0} (P : X → Type 0) (xs : List X) (n : ℕ) (x : X) → length xs ≤ n → NoneAmong P xs n → Contains xs x → P x → ⊥
none_of_all P xs n x past before among p =
    let lt : among.0 < n = omega (arith, among.1) in
    before.none among.0 x lt among.1 among.2 p

pub denied : {P : Type 0} (b : Bool) → b ≡ false → (P → IsTrue b) → P → ⊥
denied b e f p = let t : b ≡ true = f p in let q : false ≡ true = sym e ∙ t in absurd cc
