-- The initialisers of a class and of all that is above it, collected class by class.
use Rattle.std.proofs.Common.{◌≡◌, ℕ, ◌+◌, ◌<◌, ◌≤◌, Bool, true, false, List, [], ◌∷◌, ◌++◌, Some, length, get_or, subst, sym, ◌∙◌, ap, arith, inl, inr, refl}
use Rattle.std.specs.List.{slice_get, Contains}
use Rattle.std.specs.Prelude.{IsTrue}
use Rattle.std.proofs.lemmas.Bool.{cases_lt}
use Rattle.std.proofs.lemmas.List.Elements.{Contains-append_left, Contains-push, Contains-push_cases}
use Rattle.jv_types.specs.declared.desc.MethodDesc.{MethodDesc}
use Rattle.jv_types.specs.declared.ids.ClassId.{ClassId}
use Rattle.jv_types.specs.declared.ids.MethodId.{MethodId}
use Rattle.jv_types.specs.declared.shapes.Shape.{Shape}
use Rattle.jv_world.specs.Worlds.{Sub, ProperSub, AreProperSupers}
use Rattle.jv_resolve.specs.Members.{DeclaresMethod}
use Rattle.jv_resolve.proofs.Hierarchy.{sub_itself, sub_cases, sub_from_proper}
use Rattle.jv_resolve.proofs.MembersLemmas.{class_is, declares_one}
use Rattle.jv_resolve.proofs.PlacesLemmas.{read_at}
use Rattle.av_conditions.specs.CoreClasses.{void_desc}
use Rattle.av_conditions.specs.Initialisers.{clinit_name, AreInitialisersOf, AreLine, IsInitialiser, IsInitialiserOf}

-- the proper supertypes, and the class itself
pub line_made : (w : List Shape) (c : ClassId) (supers : List ClassId) → AreProperSupers w c.number supers → AreLine w c.number (supers ++ c ∷ [])
line_made w c supers exact = record {
  all = λ d s. elim (sub_cases w c.number d.number s) [
    | inl e ↦ subst (Contains (supers ++ c ∷ [])) (class_is c d e) (Contains-push supers c)
    | inr p ↦ Contains-append_left supers (c ∷ []) d (exact.all d p)
  ];
  only = λ d among. elim (Contains-push_cases supers c d among) [
    | inl l ↦ sub_from_proper w c.number d.number (exact.only d l)
    | inr q ↦ subst (λ (x : ClassId). Sub w c.number x.number) q (sub_itself w c.number)
  ];
}

-- the methods are the initialisers of the first so many classes of the line
pub record AreSoFar (w : List Shape) (c : ℕ) (line : List ClassId) (n : ℕ) (ms : List MethodId) : Type 0 where
  pub all : (k : ℕ) (d : ClassId) (m : MethodId) → k < n → slice_get line k ≡ Some d → m.class.number ≡ d.number → IsInitialiser w m → Contains ms m
  pub only : (m : MethodId) → Contains ms m → IsInitialiserOf w c m

pub far_start : (w : List Shape) (c : ℕ) (line : List ClassId) → AreSoFar w c line 0 []
far_start w c line = record { all = λ k d m lt got e p. absurd (omega arith); only = λ m among. absurd (omega (arith, among.1)) }

pub far_none : (w : List Shape) (c : ℕ) (line : List ClassId) (n : ℕ) (ms : List MethodId) (d : ClassId) → slice_get line n ≡ Some d
    → ((m : MethodId) → m.class.number ≡ d.number → IsInitialiser w m → ⊥) → AreSoFar w c line n ms → AreSoFar w c line (n + 1) ms
far_none w c line n ms d at none before = record {
  all = λ k e m lt got number p. elim (cases_lt k n) [
    | inl l ↦ before.all k e m l got number p
    | inr g ↦
        let here : k ≡ n = omega arith in
        let same : Some e ≡ Some d = sym got ∙ ap (slice_get line) here ∙ at in
        let e_is : e ≡ d = cc in
        absurd (none m (number ∙ ap (λ (x : ClassId). x.number) e_is) p)
  ];
  only = before.only;
}

-- a class has one initialiser
one_initialiser : (w : List Shape) (m n : MethodId) → IsInitialiser w m → IsInitialiser w n → m.class.number ≡ n.class.number → m ≡ n
one_initialiser w m n p q e = declares_one w clinit_name void_desc m n p.declared q.declared e

pub far_more : (w : List Shape) (c : ℕ) (line : List ClassId) (n : ℕ) (ms : List MethodId) (d : ClassId) (found : MethodId) → slice_get line n ≡ Some d → Sub w c d.number → found.class ≡ d
    → IsInitialiser w found → AreSoFar w c line n ms → AreSoFar w c line (n + 1) (ms ++ found ∷ [])
far_more w c line n ms d found at above here p before = record {
  all = λ k e m lt got number q. elim (cases_lt k n) [
    | inl l ↦ Contains-append_left ms (found ∷ []) m (before.all k e m l got number q)
    | inr g ↦
        let same_place : k ≡ n = omega arith in
        let same : Some e ≡ Some d = sym got ∙ ap (slice_get line) same_place ∙ at in
        let e_is : e ≡ d = cc in
        let own : found.class.number ≡ m.class.number = ap (λ (x : ClassId). x.number) (here ∙ sym e_is) ∙ sym number in
        subst (Contains (ms ++ found ∷ [])) (one_initialiser w found m p q own) (Contains-push ms found)
  ];
  only = λ m among. elim (Contains-push_cases ms found m among) [
    | inl l ↦ before.only m l
    | inr q ↦
        let number : d.number ≡ found.class.number = ap (λ (x : ClassId). x.number) (sym here) in
        let mine : IsInitialiserOf w c found = record { above = subst (Sub w c) number above; initialiser = p } in
        subst (IsInitialiserOf w c) q mine
  ];
}

pub far_all : (w : List Shape) (c : ℕ) (line : List ClassId) (n : ℕ) (ms : List MethodId) → length line ≤ n → AreLine w c line → AreSoFar w c line n ms → AreInitialisersOf w c ms
far_all w c line n ms past exact before = record {
  all = λ m p.
      let among = exact.all m.class p.above in
      before.all among.0 m.class m (let l = among.1 in omega arith) (read_at line among.0 m.class among.1 (sym among.2)) refl p.initialiser;
  only = before.only;
}

-- ---- one class

pub not_declared : (w : List Shape) (c : ℕ) (name : List ℕ) (desc : MethodDesc) → name ≡ clinit_name → desc ≡ void_desc → ((m : MethodId) → m.class.number ≡ c → DeclaresMethod w name desc m → ⊥)
    → (m : MethodId) → m.class.number ≡ c → IsInitialiser w m → ⊥
not_declared w c name desc is void none m e p =
    none m e (subst (λ (n : List ℕ). DeclaresMethod w n desc m) (sym is) (subst (λ (d : MethodDesc). DeclaresMethod w clinit_name d m) (sym void) p.declared))
