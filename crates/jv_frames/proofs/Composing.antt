-- Assignability is transitive, but for arrays.
use Rattle.std.proofs.Common.{◌≡◌, ℕ, false, IsTrue, List, sym, ap, ◌∙◌, subst}
use Rattle.std.proofs.lemmas.Bool.{false≢true}
use Rattle.jv_types.specs.declared.frames.VType.{VType, Top, Null, Class}
use Rattle.jv_types.specs.declared.shapes.Shape.{Shape}
use Rattle.jv_world.specs.Worlds.{IsWorld}
use Rattle.jv_frames.specs.Types.{is_array, is_object}
use Rattle.jv_frames.specs.Assignable.{IsClassAssignable, IsAssignable, same, to_top, of_null, of_class, of_array, of_items}
use Rattle.jv_frames.proofs.Arrays.{is_array-Array, is_object-Array}
use Rattle.jv_frames.proofs.Supers.{classes_compose}

-- Top is assignable to Top alone
from_top : (w : List Shape) (a b : VType) → a ≡ Top → IsAssignable w a b → b ≡ Top
from_top w a b is (same _ _ e) = sym e ∙ is
from_top w a b is (to_top _ _ e) = e
from_top w a b is (of_null _ _ e o) = absurd (cc)
from_top w a b is (of_class _ _ name of e f h) = absurd (cc)
from_top w a b is (of_array _ _ of i f h) = absurd (false≢true (ap is_array (sym is) ∙ i))
from_top w a b is (of_items _ _ item other e f h) = absurd (false≢true (ap is_array (sym is ∙ e) ∙ is_array-Array item))

-- Null is assignable to what an object type is assignable to
from_object : (w : List Shape) (n b c : VType) → n ≡ Null → IsTrue (is_object b) → IsAssignable w b c → IsAssignable w n c
from_object w n b c is object (same _ _ e) = of_null n c is (subst (λ (x : VType). IsTrue (is_object x)) e object)
from_object w n b c is object (to_top _ _ e) = to_top n c e
from_object w n b c is object (of_null _ _ e o) = of_null n c is o
from_object w n b c is object (of_class _ _ name of e f h) = of_null n c is (ap is_object f)
from_object w n b c is object (of_array _ _ of i f h) = of_null n c is (ap is_object f)
from_object w n b c is object (of_items _ _ item other e f h) = of_null n c is (ap is_object f ∙ is_object-Array other)

-- a class is assignable to what a class that it is assignable to is
from_class : (w : List Shape) → IsWorld w → (a b c : VType) (n o : List ℕ) → a ≡ Class n → b ≡ Class o → IsClassAssignable w n o → IsAssignable w b c → IsAssignable w a c
from_class w world a b c n o is to low (same _ _ e) = of_class a c n o is (sym e ∙ to) low
from_class w world a b c n o is to low (to_top _ _ e) = to_top a c e
from_class w world a b c n o is to low (of_null _ _ e object) = absurd (cc)
from_class w world a b c n o is to low (of_class _ _ own of e f h) =
    let one : own ≡ o = cc in
    of_class a c n of is f (classes_compose w world n o of low (subst (λ (x : List ℕ). IsClassAssignable w x of) one h))
from_class w world a b c n o is to low (of_array _ _ of i f h) = absurd (false≢true (ap is_array (sym to) ∙ i))
from_class w world a b c n o is to low (of_items _ _ item other e f h) = absurd (false≢true (ap is_array (sym to ∙ e) ∙ is_array-Array item))

pub compose : (w : List Shape) (a b c : VType) → IsWorld w → is_array a ≡ false → IsAssignable w a b → IsAssignable w b c → IsAssignable w a c
compose w a b c world plain (same _ _ e) second = subst (λ (x : VType). IsAssignable w x c) (sym e) second
compose w a b c world plain (to_top _ _ e) second = to_top a c (from_top w b c e second)
compose w a b c world plain (of_null _ _ e object) second = from_object w a b c e object second
compose w a b c world plain (of_class _ _ name of e f h) second = from_class w world a b c name of e f h second
compose w a b c world plain (of_array _ _ of i f h) second = absurd (false≢true (sym plain ∙ i))
compose w a b c world plain (of_items _ _ item other e f h) second = absurd (false≢true (sym plain ∙ ap is_array e ∙ is_array-Array item))
