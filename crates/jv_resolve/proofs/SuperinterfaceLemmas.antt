-- Collecting the methods of superinterfaces, and the single one among them.
use Rattle.std.proofs.Common.{◌≡◌, ℕ, ◌+◌, ◌<◌, ◌≤◌, List, [], ◌∷◌, ◌++◌, Some, length, subst, sym, ◌∙◌, ap, arith, inl, inr, refl}
use Rattle.std.specs.List.{slice_get, Contains}
use Rattle.std.proofs.lemmas.Bool.{cases_lt}
use Rattle.std.proofs.lemmas.List.Elements.{Contains-append_left, Contains-push, Contains-push_cases}
use Rattle.jv_types.specs.declared.desc.MethodDesc.{MethodDesc}
use Rattle.jv_types.specs.declared.ids.ClassId.{ClassId}
use Rattle.jv_types.specs.declared.ids.MethodId.{MethodId}
use Rattle.jv_types.specs.declared.shapes.Shape.{Shape}
use Rattle.jv_world.specs.Worlds.{ProperSub, AreProperSupers}
use Rattle.jv_resolve.specs.Inheriting.{IsInterfaceMethod, IsSuperinterfaceMethod, IsMaximallySpecific, IsSingleDefault}
use Rattle.jv_resolve.specs.Steps.Among.{AreSuperinterfaceMethods, AreHere, IsSpecificAmong, IsSingleAmong}
use Rattle.jv_resolve.proofs.MembersLemmas.{declares_one, declared_here}
use Rattle.jv_resolve.proofs.PlacesLemmas.{read_at}

-- the list has the methods of the first so many of the supertypes
pub record AreSoFar (w : List Shape) (c : ℕ) (name : List ℕ) (desc : MethodDesc) (supers : List ClassId) (n : ℕ) (ms : List MethodId) : Type 0 where
  pub all : (k : ℕ) (d : ClassId) (m : MethodId) → k < n → slice_get supers k ≡ Some d → m.class.number ≡ d.number → IsInterfaceMethod w name desc m → Contains ms m
  pub only : (m : MethodId) → Contains ms m → IsSuperinterfaceMethod w c name desc m

pub far_none : (w : List Shape) (c : ℕ) (name : List ℕ) (desc : MethodDesc) (supers : List ClassId) (n : ℕ) (ms : List MethodId) (d : ClassId)
    → slice_get supers n ≡ Some d → ((m : MethodId) → m.class.number ≡ d.number → IsInterfaceMethod w name desc m → ⊥)
    → AreSoFar w c name desc supers n ms → AreSoFar w c name desc supers (n + 1) ms
far_none w c name desc supers n ms d at none before = record {
  all = λ k e m lt got number p. elim (cases_lt k n) [
    | inl l ↦ before.all k e m l got number p
    | inr g ↦
        let here : k ≡ n = omega arith in
        let same : Some e ≡ Some d = sym got ∙ ap (slice_get supers) here ∙ at in
        let e_is : e ≡ d = cc in
        absurd (none m (number ∙ ap (λ (x : ClassId). x.number) e_is) p)
  ];
  only = before.only;
}

pub far_more : (w : List Shape) (c : ℕ) (name : List ℕ) (desc : MethodDesc) (supers : List ClassId) (n : ℕ) (ms : List MethodId) (d : ClassId) (found : MethodId)
    → slice_get supers n ≡ Some d → ProperSub w c d.number → found.class ≡ d → IsInterfaceMethod w name desc found
    → AreSoFar w c name desc supers n ms → AreSoFar w c name desc supers (n + 1) (ms ++ found ∷ [])
far_more w c name desc supers n ms d found at super here p before = record {
  all = λ k e m lt got number q. elim (cases_lt k n) [
    | inl l ↦ Contains-append_left ms (found ∷ []) m (before.all k e m l got number q)
    | inr g ↦
        let same_place : k ≡ n = omega arith in
        let same : Some e ≡ Some d = sym got ∙ ap (slice_get supers) same_place ∙ at in
        let e_is : e ≡ d = cc in
        let numbers : found.class.number ≡ m.class.number = ap (λ (x : ClassId). x.number) (here ∙ sym e_is) ∙ sym number in
        subst (Contains (ms ++ found ∷ [])) (declares_one w name desc found m p.0 q.0 numbers) (Contains-push ms found)
  ];
  only = λ m among. elim (Contains-push_cases ms found m among) [
    | inl l ↦ before.only m l
    | inr e ↦ subst (IsSuperinterfaceMethod w c name desc) e (subst (λ (x : ClassId). ProperSub w c x.number) (sym here) super, p)
  ];
}

pub far_all : (w : List Shape) (c : ℕ) (name : List ℕ) (desc : MethodDesc) (supers : List ClassId) (n : ℕ) (ms : List MethodId)
    → length supers ≤ n → AreProperSupers w c supers → AreSoFar w c name desc supers n ms → AreSuperinterfaceMethods w c name desc ms
far_all w c name desc supers n ms past exact before = record {
  all = λ m p.
      let among = exact.all m.class p.0 in
      before.all among.0 m.class m (let l = among.1 in omega arith) (read_at supers among.0 m.class among.1 (sym among.2)) refl p.1;
  only = before.only;
}

-- ---- the single one

pub are_here : (w : List Shape) (c : ℕ) (name : List ℕ) (desc : MethodDesc) (ms : List MethodId) → AreSuperinterfaceMethods w c name desc ms → AreHere w ms
are_here w c name desc ms exact = record { here = λ m among. declared_here w name desc m (exact.only m among).1.0 }

pub specific_among : (w : List Shape) (c : ℕ) (name : List ℕ) (desc : MethodDesc) (ms : List MethodId) (m : MethodId) → AreSuperinterfaceMethods w c name desc ms
    → IsMaximallySpecific w c name desc m → IsSpecificAmong w ms m
specific_among w c name desc ms m exact p other among below = p.none_below other (exact.only other among) below

pub specific_from_among : (w : List Shape) (c : ℕ) (name : List ℕ) (desc : MethodDesc) (ms : List MethodId) (m : MethodId) → AreSuperinterfaceMethods w c name desc ms
    → Contains ms m → IsSpecificAmong w ms m → IsMaximallySpecific w c name desc m
specific_from_among w c name desc ms m exact among p = record { method = exact.only m among; none_below = λ other q. p other (exact.all other q) }

pub single_from_among : (w : List Shape) (c : ℕ) (name : List ℕ) (desc : MethodDesc) (ms : List MethodId) (m : MethodId) → AreSuperinterfaceMethods w c name desc ms
    → IsSingleAmong w ms m → IsSingleDefault w c name desc m
single_from_among w c name desc ms m exact p = record {
  specific = specific_from_among w c name desc ms m exact p.among p.default.1;
  concrete = p.default.0;
  only = λ other q concrete. p.only other (exact.all other q.method) (concrete, specific_among w c name desc ms other exact q);
}

pub single_among : (w : List Shape) (c : ℕ) (name : List ℕ) (desc : MethodDesc) (ms : List MethodId) (m : MethodId) → AreSuperinterfaceMethods w c name desc ms
    → IsSingleDefault w c name desc m → IsSingleAmong w ms m
single_among w c name desc ms m exact p = record {
  among = exact.all m p.specific.method;
  default = (p.concrete, specific_among w c name desc ms m exact p.specific);
  only = λ other among q. p.only other (specific_from_among w c name desc ms other exact among q.1) q.0;
}
