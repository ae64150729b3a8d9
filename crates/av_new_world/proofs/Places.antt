-- Classes of a stand-in's world by their numbers.
use Rattle.std.proofs.Common.{◌≡◌, ℕ, zero, suc, ◌<◌, ◌≤◌, List, ◌∷◌, [], ◌++◌, length, map, Contains, Some, sym, ap, ◌∙◌, refl, arith, option_map}
use Rattle.std.specs.List.{filter, slice_get}
use Rattle.std.proofs.lemmas.Option.{slice_get-map}
use Rattle.std.proofs.lemmas.List.{length-map}
use Rattle.jv_types.specs.declared.shapes.Shape.{Shape}
use Rattle.jv_world.specs.Worlds.{IsNamed}
use Rattle.jv_lists.proofs.Places.{among_at, get_front, element_at, placed}
use Rattle.av_standin_of.specs.Classes.{MadeClass}
use Rattle.av_standin_of.specs.Worlds.{kept_class, new_class, is_new, standin_world}
use Rattle.av_new_world.proofs.Kept.{name_stays}

some_is : {X : Type 0} (x y : X) → Some x ≡ Some y → x ≡ y
some_is x y e = cc

-- what stands at a place of two lists
behind : {X : Type 0} (xs ys : List X) (k : ℕ) (x : X) → length xs ≤ k → slice_get (xs ++ ys) k ≡ Some x → Contains ys x
behind [] ys k x low at = among_at ys k x at
behind (y ∷ xs) ys zero x low at = absurd (omega (arith, low))
behind (y ∷ xs) ys (suc k) x low at = behind xs ys k x (omega (arith, low)) at

-- a class that was there has its number
pub at_old : (w : List Shape) (classes : List MadeClass) (c : ℕ) (class : Shape) → slice_get w c ≡ Some class → slice_get (standin_world w classes) c ≡ Some (kept_class class)
at_old w classes c class at =
    get_front (map kept_class w) (map new_class (filter (is_new w) classes)) c (kept_class class) (slice_get-map kept_class w c ∙ ap (option_map kept_class) at)

-- below so many stand those that were there
pub old_at : (w : List Shape) (classes : List MadeClass) (c : ℕ) (x : Shape) → c < length w → slice_get (standin_world w classes) c ≡ Some x
    → (class : Shape) × (slice_get w c ≡ Some class) × (kept_class class ≡ x)
old_at w classes c x low at =
    let here = element_at w c low in
    (here.0, here.1, some_is (kept_class here.0) x (sym (at_old w classes c here.0 here.1) ∙ at))

-- and from there on the new ones
pub new_at : (w : List Shape) (classes : List MadeClass) (c : ℕ) (x : Shape) → length w ≤ c → slice_get (standin_world w classes) c ≡ Some x → Contains (map new_class (filter (is_new w) classes)) x
new_at w classes c x high at =
    behind (map kept_class w) (map new_class (filter (is_new w) classes)) c x (omega (arith, high, length-map w kept_class)) at

pub named_old : (w : List Shape) (classes : List MadeClass) (c : ℕ) (name : List ℕ) → IsNamed w c name → IsNamed (standin_world w classes) c name
named_old w classes c name (class, at, same) = (kept_class class, at_old w classes c class at, name_stays class ∙ same)

pub old_named : (w : List Shape) (classes : List MadeClass) (c : ℕ) (name : List ℕ) → c < length w → IsNamed (standin_world w classes) c name → IsNamed w c name
old_named w classes c name low (x, at, same) =
    let old = old_at w classes c x low at in
    (old.0, old.1, sym (name_stays old.0) ∙ ap (λ (s : Shape). s.name) old.2 ∙ same)

-- a class of the world has a number
pub number_of : (w : List Shape) (class : Shape) → Contains w class → (c : ℕ) × IsNamed w c class.name
number_of w class has = (has.0, (class, placed w class has, refl))
