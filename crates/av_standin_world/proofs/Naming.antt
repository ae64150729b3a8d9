-- Whether a world has a class of a name.
use Rattle.std.proofs.Common.{◌≡◌, ℕ, Bool, true, false, inl, inr, List, [], ◌∷◌, Contains, Option, None, Some, refl, ap, subst, sym, ◌∙◌}
use Rattle.std.specs.Prelude.{not, ◌||◌, IfSome, IfNone}
use Rattle.std.specs.Option.{is_none, is_some}
use Rattle.std.specs.List.{list_any}
use Rattle.std.specs.Str.{bytes_eq}
use Rattle.std.proofs.lemmas.Slice.Eq.{bytes_eq-Decides}
use Rattle.jv_types.specs.declared.ids.ClassId.{ClassId}
use Rattle.jv_types.specs.declared.shapes.Shape.{Shape}
use Rattle.jv_world.specs.Worlds.{IsNamed}
use Rattle.jv_lists.proofs.Among.{is_first, is_later, first_or_later, none_there}
use Rattle.jv_lists.proofs.Places.{among_at, placed}

any_passes : {X : Type 0} (test : X → Bool) (xs : List X) (x : X) → Contains xs x → test x ≡ true → list_any test xs ≡ true
any_passes test [] x has passes = absurd (none_there x has)
any_passes {X} test (y ∷ xs) x has passes = elim (first_or_later y xs x has) [
  | inl same ↦ ap (λ (b : Bool). b || list_any test xs) (subst (λ (z : X). test z ≡ true) (sym same) passes)
  | inr later ↦ ap (λ (b : Bool). test y || b) (any_passes test xs x later passes) ∙ either (test y)
]
  where
    either : (b : Bool) → (b || true) ≡ true
    either true = refl
    either false = refl

none_any : {X : Type 0} (test : X → Bool) (xs : List X) → ((x : X) → Contains xs x → test x ≡ false) → list_any test xs ≡ false
none_any test [] none = refl
none_any test (x ∷ xs) none =
    ap (λ (b : Bool). b || list_any test xs) (none x (is_first x xs)) ∙ none_any test xs (λ y has. none y (is_later x xs y has))

untrue : (b : Bool) → (b ≡ true → ⊥) → b ≡ false
untrue true never = absurd (never refl)
untrue false never = refl

pub new_by : (w : List Shape) (name : List ℕ) (found : Option ClassId) → IfSome found (λ c. IsNamed w c.number name) → IfNone found ((c : ℕ) → IsNamed w c name → ⊥)
    → is_none found ≡ not (list_any (λ (class : Shape). bytes_eq class.name name) w)
new_by w name None some none =
    ap not (sym (none_any (λ (class : Shape). bytes_eq class.name name) w
    (λ class has. untrue (bytes_eq class.name name) (λ same. none has.0 (class, placed w class has, (bytes_eq-Decides class.name name).0 same)))))
new_by w name (Some c) (class, at, same) none =
    ap not (sym (any_passes (λ (s : Shape). bytes_eq s.name name) w class (among_at w c.number class at) ((bytes_eq-Decides class.name name).1 same)))

-- the opposite of whether it is there
pub flipped : (found : Option ClassId) (b : Bool) → is_some found ≡ not b → b ≡ is_none found
flipped None true is = refl
flipped None false is = is
flipped (Some c) true is = is
flipped (Some c) false is = refl
