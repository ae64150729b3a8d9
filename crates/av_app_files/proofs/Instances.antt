-- The methods of a class that are initialisers without being static, looked at in their order.
use Rattle.std.proofs.Common.{◌≡◌, ℕ, ◌+◌, ◌<◌, ◌≤◌, Bool, true, false, List, length, get_or, Contains, IsTrue, refl, sym, ◌∙◌, ap, subst, inl, inr, arith}
use Rattle.std.specs.Prelude.{◌↔◌}
use Rattle.std.proofs.lemmas.Bool.{cases_lt}
use Rattle.std.proofs.lemmas.List.{get_or_default}
use Rattle.jv_class.specs.declared.class_file.ClassFile.{ClassFile}
use Rattle.jv_class.specs.declared.class_file.Member.{Member}
use Rattle.av_app_files.specs.FileRules.{HasInstanceInitialiser, IsInstanceInitialiser}

pub denied : {P : Type 0} (b : Bool) → b ≡ false → (P → IsTrue b) → P → ⊥
denied b e f p = let t : b ≡ true = f p in let q : false ≡ true = sym e ∙ t in absurd cc

-- none of the first so many methods is one
pub record NoneInstance (class : ClassFile) (methods : List Member) (n : ℕ) : Type 0 where
  pub none : (k : ℕ) (m : Member) → k < n → k < length methods → get_or methods k m ≡ m → IsInstanceInitialiser class m → ⊥

pub instance_start : (class : ClassFile) (methods : List Member) → NoneInstance class methods 0
instance_start class methods = record { none = λ k m lt within is p. absurd (omega arith) }

pub instance_more : (class : ClassFile) (methods : List Member) (n : ℕ) (method : Member) → n < length methods → method ≡ get_or methods n method → (IsInstanceInitialiser class method → ⊥)
    → NoneInstance class methods n → NoneInstance class methods (n + 1)
instance_more class methods n method here is other before = record {
  none = λ k m lt within at p. elim (cases_lt k n) [
    | inl l ↦ before.none k m l within at p
    | inr g ↦
        let same : k ≡ n = omega arith in
        let one : m ≡ method = sym at ∙ ap (λ (j : ℕ). get_or methods j m) same ∙ get_or_default methods n m method here ∙ sym is in
        other (subst (IsInstanceInitialiser class) one p)
  ];
}

pub instance_found : (class : ClassFile) (methods : List Member) (n : ℕ) (method : Member) → methods ≡ class.methods → n < length methods → method ≡ get_or methods n method
    → IsInstanceInitialiser class method → IsTrue true ↔ HasInstanceInitialiser class
instance_found class methods n method all here is own =
    (λ _. (method, subst (λ (l : List Member). Contains l method) all (n, here, sym is), own), λ _. refl)

pub instance_none : (class : ClassFile) (methods : List Member) (n : ℕ) → methods ≡ class.methods → length methods ≤ n → NoneInstance class methods n → IsTrue false ↔ HasInstanceInitialiser class
instance_none class methods n all past before = (
  λ t. absurd (let e : false ≡ true = t in cc),
  λ p.
      let among : Contains methods p.0 = subst (λ (l : List Member). Contains l p.0) (sym all) p.1 in
      let lt : among.0 < n = omega (arith, among.1) in
      absurd (before.none among.0 p.0 lt among.1 among.2 p.2),
)
