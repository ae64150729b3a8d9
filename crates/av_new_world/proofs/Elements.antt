-- The classes of a stand-in's world: those that were there, and the new ones.
use Rattle.std.proofs.Common.{◌≡◌, ℕ, ◌⊎◌, inl, inr, Bool, true, false, List, ◌∷◌, [], map, Contains, sym, subst, ◌∙◌, arith}
use Rattle.std.specs.List.{filter, list_any}
use Rattle.std.specs.Str.{bytes_eq}
use Rattle.std.proofs.lemmas.List.Elements.{Contains-append_left, Contains-append_right, Contains-append_cases}
use Rattle.std.proofs.lemmas.Slice.Eq.{bytes_eq-Decides}
use Rattle.jv_types.specs.declared.shapes.Shape.{Shape}
use Rattle.jv_world.specs.Worlds.{IsNamed}
use Rattle.jv_lists.proofs.Among.{mapped_from, mapped_to, none_there, first_or_later}
use Rattle.jv_lists.proofs.Places.{among_at}
use Rattle.jv_lists.proofs.Tests.{not_true, both_false}
use Rattle.jv_once.proofs.Keys.{of_kept, is_kept}
use Rattle.av_standin_of.specs.Classes.{MadeClass}
use Rattle.av_standin_of.specs.Worlds.{kept_class, new_class, is_new, standin_world}

-- ---- names that are new

unlike : true ≡ false → ⊥
unlike e = grind (arith, e)

-- none passes the test
none_passes : {X : Type 0} (test : X → Bool) (xs : List X) → list_any test xs ≡ false → (x : X) → Contains xs x → test x ≡ false
none_passes test [] none x has = absurd (none_there x has)
none_passes {X} test (y ∷ xs) none x has =
    let both = both_false (test y) (list_any test xs) none in
    elim (first_or_later y xs x has) [
      | inl same ↦ subst (λ (z : X). test z ≡ false) same both.0
      | inr later ↦ none_passes test xs both.1 x later
    ]

-- a class whose name is new has the name of no class of the world
pub new_name : (w : List Shape) (made : MadeClass) → is_new w made ≡ true → (class : Shape) → Contains w class → class.name ≡ made.name → ⊥
new_name w made new class has same =
    let other = none_passes (λ (s : Shape). bytes_eq s.name made.name) w (not_true (list_any (λ (s : Shape). bytes_eq s.name made.name) w) new) class has in
    unlike (sym ((bytes_eq-Decides class.name made.name).1 same) ∙ other)

pub new_nowhere : (w : List Shape) (made : MadeClass) → is_new w made ≡ true → (c : ℕ) → IsNamed w c made.name → ⊥
new_nowhere w made new c (class, at, same) = new_name w made new class (among_at w c class at) same

-- ---- elements

-- a class that was there
pub record WasThere (w : List Shape) (x : Shape) : Type 0 where
  pub class : Shape
  pub there : Contains w class
  pub is : kept_class class ≡ x

-- one that is new
pub record IsAdded (w : List Shape) (classes : List MadeClass) (x : Shape) : Type 0 where
  pub made : MadeClass
  pub there : Contains classes made
  pub new : is_new w made ≡ true
  pub is : new_class made ≡ x

pub from_world : (w : List Shape) (classes : List MadeClass) (x : Shape) → Contains (standin_world w classes) x → WasThere w x ⊎ IsAdded w classes x
from_world w classes x has = elim (Contains-append_cases (map kept_class w) (map new_class (filter (is_new w) classes)) x has) [
  | inl old ↦ let from = mapped_from kept_class w x old in inl (record { class = from.0; there = from.1; is = from.2 })
  | inr added ↦
      let from = mapped_from new_class (filter (is_new w) classes) x added in
      let kept = of_kept (is_new w) classes from.0 from.1 in
      inr (record { made = from.0; there = kept.0; new = kept.1; is = from.2 })
]

pub keeps : (w : List Shape) (classes : List MadeClass) (class : Shape) → Contains w class → Contains (standin_world w classes) (kept_class class)
keeps w classes class has = Contains-append_left (map kept_class w) (map new_class (filter (is_new w) classes)) (kept_class class) (mapped_to kept_class w class has)

pub adds : (w : List Shape) (classes : List MadeClass) (made : MadeClass) → Contains classes made → is_new w made ≡ true → Contains (standin_world w classes) (new_class made)
adds w classes made has new =
    Contains-append_right (map kept_class w) (map new_class (filter (is_new w) classes)) (new_class made) (mapped_to new_class (filter (is_new w) classes) made (is_kept (is_new w) classes made has new))
