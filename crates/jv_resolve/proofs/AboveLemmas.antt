-- What the searches above a class find, in terms of the relations.
use Rattle.std.proofs.Common.{◌≡◌, ℕ, zero, suc, ◌<◌, List, Option, Some, None, length, map, subst, sym, ◌∙◌, ap, ◌⊎◌, inl, inr, refl}
use Rattle.std.specs.List.{slice_get, Contains}
use Rattle.std.proofs.lemmas.Option.{slice_get-map}
use Rattle.std.specs.Option.{option_map}
use Rattle.jv_types.specs.declared.desc.MethodDesc.{MethodDesc}
use Rattle.jv_types.specs.declared.ids.ClassId.{ClassId}
use Rattle.jv_types.specs.declared.ids.MethodId.{MethodId}
use Rattle.jv_types.specs.declared.shapes.Shape.{Shape}
use Rattle.jv_world.specs.Worlds.{Sub, same, link}
use Rattle.jv_resolve.specs.Members.{DeclaresMethod}
use Rattle.jv_resolve.specs.Inheriting.{IsNearest, HasNone, IsSingleDefault, HasNoSingleDefault}
use Rattle.jv_resolve.specs.Steps.Among.{AreSuperinterfaceMethods, IsSingleAmong}
use Rattle.jv_resolve.specs.Steps.Targets.{IsTarget, AreClasses}
use Rattle.jv_resolve.specs.DepthFirst.{LeadsUpTo, IsFirstWay, IsFirstBy, IsFirst}
use Rattle.jv_resolve.specs.Resolving.{DeclaresFor, ResolvesAbove, ResolvesInClass, IsObjectMethod, ResolvesInInterface}
use Rattle.jv_resolve.proofs.Going.{way_super}
use Rattle.jv_resolve.proofs.MembersLemmas.{declared_here, class_here, class_is}
use Rattle.jv_resolve.proofs.PlacesLemmas.{read_at, among_from_get}
use Rattle.jv_resolve.proofs.SuperinterfaceLemmas.{single_among}

abbrev pub class_of : MethodId → ClassId
class_of m = m.class

-- ---- targets and what they stand for

-- the class of a method is among the classes
class_among : (ms : List MethodId) (m : MethodId) → Contains ms m → Contains (map class_of ms) m.class
class_among ms m among =
    among_from_get (map class_of ms) among.0 m.class (slice_get-map class_of ms among.0 ∙ ap (option_map class_of) (read_at ms among.0 m among.1 (sym among.2)))

-- a class among them is one of a method
method_among : (ms : List MethodId) (d : ClassId) → Contains (map class_of ms) d → (m : MethodId) × Contains ms m × (m.class ≡ d)
method_among ms d among =
    from_mapped (slice_get ms among.0) refl
  where
    from_mapped : (o : Option MethodId) → o ≡ slice_get ms among.0 → (m : MethodId) × Contains ms m × (m.class ≡ d)
    from_mapped None e =
        let at = read_at (map class_of ms) among.0 d among.1 (sym among.2) in
        let none : None ≡ Some d = ap (option_map class_of) e ∙ sym (slice_get-map class_of ms among.0) ∙ at in
        absurd cc
    from_mapped (Some m) e =
        let at = read_at (map class_of ms) among.0 d among.1 (sym among.2) in
        let some : Some m.class ≡ Some d = ap (option_map class_of) e ∙ sym (slice_get-map class_of ms among.0) ∙ at in
        let is : m.class ≡ d = cc in
        (m, among_from_get ms among.0 m (sym e), is)

pub target_declares : (w : List Shape) (c : ℕ) (name : List ℕ) (desc : MethodDesc) (ms : List MethodId) → AreSuperinterfaceMethods w c name desc ms
    → (e : ℕ) → IsTarget (map class_of ms) e → DeclaresFor w c name desc e
target_declares w c name desc ms exact e target =
    let d : ClassId = record { number = e } in
    let found = method_among ms d target in
    (found.0, exact.only found.0 found.1, ap (λ (x : ClassId). x.number) found.2)

pub declares_target : (w : List Shape) (c : ℕ) (name : List ℕ) (desc : MethodDesc) (ms : List MethodId) → AreSuperinterfaceMethods w c name desc ms
    → (e : ℕ) → DeclaresFor w c name desc e → IsTarget (map class_of ms) e
declares_target w c name desc ms exact e p =
    let d : ClassId = record { number = e } in
    subst (Contains (map class_of ms)) (class_is p.0.class d p.2) (class_among ms p.0 (exact.all p.0 p.1))

pub targets_here : (w : List Shape) (c : ℕ) (name : List ℕ) (desc : MethodDesc) (ms : List MethodId) → AreSuperinterfaceMethods w c name desc ms → AreClasses w (map class_of ms)
targets_here w c name desc ms exact = record {
  here = λ d among.
      let found = method_among ms d among in
      subst (λ (x : ClassId). x.number < length w) found.2 (class_here w found.0 (declared_here w name desc found.0 (exact.only found.0 found.1).1.0));
}

-- ---- the first one, by either predicate

leads_by : (w : List Shape) (P Q : ℕ → Type 0) → ((e : ℕ) → P e → Q e) → (d : ℕ) → LeadsUpTo w P d → LeadsUpTo w Q d
leads_by w P Q f d p = (p.0, p.1, f p.0 p.2)

way_by : (w : List Shape) (P Q : ℕ → Type 0) → ((e : ℕ) → P e → Q e) → ((e : ℕ) → Q e → P e) → (c d : ℕ) → IsFirstWay w P c d → IsFirstWay w Q c d
way_by w P Q f g c d way = (
  way.0,
  way.1,
  record {
    place = way.2.place;
    name = way.2.name;
    at_place = way.2.at_place;
    named = way.2.named;
    leads = leads_by w P Q f d way.2.leads;
    before = λ k other e lt got named leads. way.2.before k other e lt got named (leads_by w Q P g e leads);
  },
)

first_by : (w : List Shape) (P Q : ℕ → Type 0) → ((e : ℕ) → P e → Q e) → ((e : ℕ) → Q e → P e) → (n c d : ℕ) → IsFirstBy w P n c d → IsFirstBy w Q n c d
first_by w P Q f g zero c d p = (p.0, f d p.1)
first_by w P Q f g (suc n) c d p = ((λ q. p.0 (g c q)), p.1, way_by w P Q f g c p.1 p.2, first_by w P Q f g n p.1 d p.3)

pub first_same : (w : List Shape) (P Q : ℕ → Type 0) → ((e : ℕ) → P e → Q e) → ((e : ℕ) → Q e → P e) → (c d : ℕ) → IsFirst w P c d → IsFirst w Q c d
first_same w P Q f g c d p = (p.0, first_by w P Q f g p.0 c d p.1)

pub leads_same : (w : List Shape) (P Q : ℕ → Type 0) → ((e : ℕ) → P e → Q e) → (c : ℕ) → LeadsUpTo w P c → LeadsUpTo w Q c
leads_same w P Q f c p = leads_by w P Q f c p

-- what is first is such a one, at the class or above it
first_holds_by : (w : List Shape) (P : ℕ → Type 0) (n c d : ℕ) → IsFirstBy w P n c d → P d
first_holds_by w P zero c d p = p.1
first_holds_by w P (suc n) c d p = first_holds_by w P n p.1 d p.3

pub first_holds : (w : List Shape) (P : ℕ → Type 0) (c d : ℕ) → IsFirst w P c d → P d
first_holds w P c d p = first_holds_by w P p.0 c d p.1

first_sub_by : (w : List Shape) (P : ℕ → Type 0) (n c d : ℕ) → IsFirstBy w P n c d → Sub w c d
first_sub_by w P zero c d p = same c d p.0
first_sub_by w P (suc n) c d p = link c p.1 d (way_super w P c p.1 p.2) (first_sub_by w P n p.1 d p.3)

pub first_leads : (w : List Shape) (P : ℕ → Type 0) (c d : ℕ) → IsFirst w P c d → LeadsUpTo w P c
first_leads w P c d p = (d, first_sub_by w P p.0 c d p.1, first_holds w P c d p)

-- ---- above a class

pub no_default : (w : List Shape) (c : ℕ) (name : List ℕ) (desc : MethodDesc) (ms : List MethodId) → AreSuperinterfaceMethods w c name desc ms
    → ((m : MethodId) → IsSingleAmong w ms m → ⊥) → (m : MethodId) → IsSingleDefault w c name desc m → ⊥
no_default w c name desc ms exact none m p = none m (single_among w c name desc ms m exact p)

pub nothing_above : (w : List Shape) (c : ℕ) (name : List ℕ) (desc : MethodDesc) → HasNoSingleDefault w c name desc → (LeadsUpTo w (DeclaresFor w c name desc) c → ⊥)
    → (m : MethodId) → ResolvesAbove w c name desc m → ⊥
nothing_above w c name desc none nowhere m p = pick p.found
  where
    pick : IsSingleDefault w c name desc m ⊎ (HasNoSingleDefault w c name desc × IsFirst w (DeclaresFor w c name desc) c m.class.number) → ⊥
    pick (inl q) = none m q
    pick (inr q) = nowhere (first_leads w (DeclaresFor w c name desc) c m.class.number q.1)

-- ---- from a class, and from an interface

pub nearest_or_none : (w : List Shape) (P : MethodId → Type 0) (c : ℕ) (m : MethodId) → HasNone w P c → IsNearest w P c m → ⊥
nearest_or_none w P c m none p = none p.links m p.leads p.meets

pub nothing_in_class : (w : List Shape) (c : ℕ) (name : List ℕ) (desc : MethodDesc) → HasNone w (DeclaresMethod w name desc) c → ((m : MethodId) → ResolvesAbove w c name desc m → ⊥)
    → (m : MethodId) → ResolvesInClass w c name desc m → ⊥
nothing_in_class w c name desc none above m (inl p) = nearest_or_none w (DeclaresMethod w name desc) c m none p
nothing_in_class w c name desc none above m (inr p) = above m p.1

pub nothing_in_interface : (w : List Shape) (c : ℕ) (name : List ℕ) (desc : MethodDesc) → ((m : MethodId) → m.class.number ≡ c → DeclaresMethod w name desc m → ⊥)
    → ((m : MethodId) → IsObjectMethod w name desc m → ⊥) → ((m : MethodId) → ResolvesAbove w c name desc m → ⊥) → (m : MethodId) → ResolvesInInterface w c name desc m → ⊥
nothing_in_interface w c name desc own object above m (inl p) = own m p.1 p.0
nothing_in_interface w c name desc own object above m (inr (_, inl p)) = object m p
nothing_in_interface w c name desc own object above m (inr (_, inr p)) = above m p.1
