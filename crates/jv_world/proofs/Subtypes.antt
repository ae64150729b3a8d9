-- Subtypes and proper subtypes.
use Rattle.std.proofs.Common.{◌≡◌, ℕ, ◌⊎◌, ◌<◌, List, length, Bool, false, IsTrue, Option, Some, None, IfNone, nat_eq, slice_get, refl, sym, ap, ◌∙◌, subst, inl, inr, ⊎_elim}
use Rattle.std.proofs.lemmas.Option.{slice_get_within, same_Some}
use Rattle.std.proofs.lemmas.Bool.{false≢true}
use Rattle.std.specs.Cmp.Lexicographic.{pointwise, bytes_decides}
use Rattle.jv_types.specs.declared.ids.ClassId.{ClassId}
use Rattle.jv_types.specs.declared.shapes.Shape.{Shape}
use Rattle.jv_world.specs.Worlds.{IsInterface, HasSuper, Sub, same, link, ProperSub, IsNamed, HasSuperclass, AreNumbered}
use Rattle.jv_world.specs.Instances.{IsInterfaceNamed, IsSubNamed}

-- a subtype is the class itself or a proper one
pub Sub-cases : (w : List Shape) (b d : ℕ) → Sub w b d → (b ≡ d) ⊎ ProperSub w b d
Sub-cases w b d (same _ _ is) = inl is
Sub-cases w b d (link _ c _ first rest) = inr (c, first, rest)

pub Sub-proper : (w : List Shape) (b d : ℕ) → ProperSub w b d → Sub w b d
Sub-proper w b d proper = link b proper.0 d proper.1 proper.2

-- one link more at the end
pub Sub-trans : (w : List Shape) (b c d : ℕ) → Sub w b c → Sub w c d → Sub w b d
Sub-trans w b c d (same _ _ is) rest = subst (λ (x : ℕ). Sub w x d) (sym is) rest
Sub-trans w b c d (link _ m _ first more) rest = link b m d first (Sub-trans w m c d more rest)

pub Sub-one : (w : List Shape) (b d : ℕ) → HasSuper w b d → Sub w b d
Sub-one w b d first = link b d d first (same d d refl)

-- what a link leads to is a class of the list
pub IsNamed-below : (w : List Shape) (c : ℕ) (name : List ℕ) → IsNamed w c name → c < length w
IsNamed-below w c name named = slice_get_within w c named.0 named.1

pub HasSuper-below : (w : List Shape) (c d : ℕ) → HasSuper w c d → d < length w
HasSuper-below w c d h = ⊎_elim (λ parent. IsNamed-below w d parent.1 parent.4) (λ interface. IsNamed-below w d interface.1 interface.4) h

pub HasSuper-from : (w : List Shape) (c d : ℕ) → HasSuper w c d → c < length w
HasSuper-from w c d h = ⊎_elim (λ parent. slice_get_within w c parent.0 parent.2) (λ interface. slice_get_within w c interface.0 interface.2) h

-- the superclass that a name is looked up for
pub HasSuperclass-none : (w : List Shape) (c : ℕ) (shape : Shape) (parent : List ℕ) (r : Option ClassId) → slice_get w c ≡ Some shape → shape.parent ≡ Some parent
    → IfNone r ((d : ℕ) → IsNamed w d parent → ⊥) → IfNone r ((d : ℕ) → HasSuperclass w c d → ⊥)
HasSuperclass-none w c shape parent (Some d) at names none = none
HasSuperclass-none w c shape parent None at names none = λ d h.
    let here : shape ≡ h.0 = same_Some shape h.0 (sym at ∙ h.2) in
    let name : h.1 ≡ parent = same_Some h.1 parent (sym h.3 ∙ ap (λ (s : Shape). s.parent) (sym here) ∙ names) in
    none d (subst (IsNamed w d) name h.4)

-- where both names are of classes
pub IsSubNamed-by : (w : List Shape) (a b : ℕ) (name of : List ℕ) (t : Bool) → AreNumbered w → (name ≡ of → ⊥) → IsNamed w a name → IsNamed w b of
    → (IsTrue t → Sub w a b) × (Sub w a b → IsTrue t) → (IsTrue t → IsSubNamed w name of) × (IsSubNamed w name of → IsTrue t)
IsSubNamed-by w a b name of t numbered other at_name at_of says = (
  λ yes. inr (a, b, at_name, at_of, says.0 yes),
  λ sub.
      ⊎_elim
      (λ same_names. absurd (other same_names))
      (λ (links : (c : ℕ) × (d : ℕ) × IsNamed w c name × IsNamed w d of × Sub w c d).
      says.1
      (subst (λ (x : ℕ). Sub w x b) (numbered.distinct links.0 a name links.2 at_name)
      (subst (λ (x : ℕ). Sub w links.0 x) (numbered.distinct links.1 b of links.3 at_of) links.4)))
      sub,
)

-- where one of two different names is of no class
pub IsSubNamed-not : (w : List Shape) (name of : List ℕ) → (name ≡ of → ⊥) → ((c : ℕ) (d : ℕ) → IsNamed w c name → IsNamed w d of → ⊥) → IsSubNamed w name of → ⊥
IsSubNamed-not w name of other none sub =
    ⊎_elim (λ same_names. other same_names) (λ (links : (c : ℕ) × (d : ℕ) × IsNamed w c name × IsNamed w d of × Sub w c d). none links.0 links.1 links.2 links.3) sub

pub IsSubNamed-no_class : (w : List Shape) (name of : List ℕ) → (name ≡ of → ⊥) → ((c : ℕ) (d : ℕ) → IsNamed w c name → IsNamed w d of → ⊥)
    → (IsTrue false → IsSubNamed w name of) × (IsSubNamed w name of → IsTrue false)
IsSubNamed-no_class w name of other none = (λ h. absurd (false≢true h), λ sub. absurd (IsSubNamed-not w name of other none sub))

-- names that compare as different
pub other_name : (name of : List ℕ) (t : Bool) → t ≡ pointwise nat_eq name of → t ≡ false → name ≡ of → ⊥
other_name name of t is differs same_names = false≢true (sym differs ∙ is ∙ (bytes_decides name of).1 same_names)

-- the class of the name is an interface, or there is none
pub IsInterfaceNamed-by : (w : List Shape) (c : ℕ) (shape : Shape) (name : List ℕ) (t : Bool) → AreNumbered w → IsNamed w c name → slice_get w c ≡ Some shape
    → (IsTrue t → IsInterface shape) × (IsInterface shape → IsTrue t) → (IsTrue t → IsInterfaceNamed w name) × (IsInterfaceNamed w name → IsTrue t)
IsInterfaceNamed-by w c shape name t numbered named at says =
    let own : shape ≡ named.0 = same_Some shape named.0 (sym at ∙ named.1) in (
      λ yes. (c, shape, at, ap (λ (s : Shape). s.name) own ∙ named.2, says.0 yes),
      λ interface.
          let here : interface.0 ≡ c = numbered.distinct interface.0 c name (interface.1, interface.2, interface.3) named in
          let other : interface.1 ≡ shape = same_Some interface.1 shape (sym interface.2 ∙ ap (λ (x : ℕ). slice_get w x) here ∙ at) in
          says.1 (subst (λ (s : Shape). IsInterface s) other interface.4),
    )

pub IsInterfaceNamed-none : (w : List Shape) (name : List ℕ) → ((c : ℕ) → IsNamed w c name → ⊥)
    → (IsTrue false → IsInterfaceNamed w name) × (IsInterfaceNamed w name → IsTrue false)
IsInterfaceNamed-none w name none = (λ h. absurd (false≢true h), λ interface. absurd (none interface.0 (interface.1, interface.2, interface.3)))
