-- Collecting the classes that declare a field, and the first of them.
use Rattle.std.proofs.Common.{◌≡◌, ℕ, zero, suc, ◌+◌, ◌<◌, ◌≤◌, List, [], ◌∷◌, ◌++◌, Some, length, subst, sym, ◌∙◌, ap, arith, inl, inr}
use Rattle.std.specs.List.{slice_get, Contains}
use Rattle.std.proofs.lemmas.Bool.{cases_lt}
use Rattle.std.proofs.lemmas.List.Elements.{Contains-append_left, Contains-push, Contains-push_cases}
use Rattle.jv_types.specs.declared.desc.Desc.{Desc}
use Rattle.jv_types.specs.declared.ids.ClassId.{ClassId}
use Rattle.jv_types.specs.declared.ids.FieldId.{FieldId}
use Rattle.jv_types.specs.declared.references.FieldRef.{FieldRef}
use Rattle.jv_types.specs.declared.shapes.Shape.{Shape}
use Rattle.jv_world.specs.Worlds.{IsNamed, Sub, same, link, ProperSub, AreProperSupers, IsWorld}
use Rattle.jv_resolve.specs.DepthFirst.{LeadsUpTo, IsFirstWay, IsFirstBy, IsFirst}
use Rattle.jv_resolve.specs.Resolving.{DeclaresFieldIn, ResolvesField}
use Rattle.jv_resolve.specs.Steps.Targets.{IsTarget, AreClasses, AreDeclaring}
use Rattle.jv_resolve.proofs.AboveLemmas.{first_leads}
use Rattle.jv_resolve.proofs.Going.{way_super, super_from_place}
use Rattle.jv_resolve.proofs.Hierarchy.{sub_itself, sub_cases, sub_from_proper, sub_here}
use Rattle.jv_resolve.proofs.MembersLemmas.{class_is}
use Rattle.jv_resolve.proofs.PlacesLemmas.{read_at}

-- the list has those of the first so many of the supertypes that declare the field
pub record AreDeclaringSoFar (w : List Shape) (c : ℕ) (name : List ℕ) (desc : Desc) (supers : List ClassId) (n : ℕ) (ds : List ClassId) : Type 0 where
  pub all : (k : ℕ) (d : ClassId) → k < n → slice_get supers k ≡ Some d → DeclaresFieldIn w name desc d.number → Contains ds d
  pub only : (d : ClassId) → Contains ds d → Sub w c d.number × DeclaresFieldIn w name desc d.number

pub fields_none : (w : List Shape) (c : ℕ) (name : List ℕ) (desc : Desc) (supers : List ClassId) (n : ℕ) (ds : List ClassId) (d : ClassId) → slice_get supers n ≡ Some d
    → (DeclaresFieldIn w name desc d.number → ⊥) → AreDeclaringSoFar w c name desc supers n ds → AreDeclaringSoFar w c name desc supers (n + 1) ds
fields_none w c name desc supers n ds d at none before = record {
  all = λ k e lt got p. elim (cases_lt k n) [
    | inl l ↦ before.all k e l got p
    | inr g ↦
        let here : k ≡ n = omega arith in
        let some : Some e ≡ Some d = sym got ∙ ap (slice_get supers) here ∙ at in
        let is : e ≡ d = cc in
        absurd (none (subst (λ (x : ClassId). DeclaresFieldIn w name desc x.number) is p))
  ];
  only = before.only;
}

pub fields_more : (w : List Shape) (c : ℕ) (name : List ℕ) (desc : Desc) (supers : List ClassId) (n : ℕ) (ds : List ClassId) (d : ClassId) → slice_get supers n ≡ Some d
    → ProperSub w c d.number → DeclaresFieldIn w name desc d.number → AreDeclaringSoFar w c name desc supers n ds → AreDeclaringSoFar w c name desc supers (n + 1) (ds ++ d ∷ [])
fields_more w c name desc supers n ds d at super declares before = record {
  all = λ k e lt got p. elim (cases_lt k n) [
    | inl l ↦ Contains-append_left ds (d ∷ []) e (before.all k e l got p)
    | inr g ↦
        let here : k ≡ n = omega arith in
        let some : Some d ≡ Some e = sym at ∙ sym (ap (slice_get supers) here) ∙ got in
        let is : d ≡ e = cc in
        subst (Contains (ds ++ d ∷ [])) is (Contains-push ds d)
  ];
  only = λ e among. elim (Contains-push_cases ds d e among) [
    | inl l ↦ before.only e l
    | inr q ↦ subst (λ (x : ClassId). Sub w c x.number × DeclaresFieldIn w name desc x.number) q (sub_from_proper w c d.number super, declares)
  ];
}

-- with the class itself
pub fields_own : (w : List Shape) (c : ClassId) (name : List ℕ) (desc : Desc) (supers : List ClassId) (n : ℕ) (ds : List ClassId) → length supers ≤ n → AreProperSupers w c.number supers
    → DeclaresFieldIn w name desc c.number → AreDeclaringSoFar w c.number name desc supers n ds → AreDeclaring w c.number name desc (ds ++ c ∷ [])
fields_own w c name desc supers n ds past exact declares before = record {
  all = λ d s p. elim (sub_cases w c.number d.number s) [
    | inl e ↦ subst (Contains (ds ++ c ∷ [])) (class_is c d e) (Contains-push ds c)
    | inr q ↦
        let among = exact.all d q in
        Contains-append_left ds (c ∷ []) d (before.all among.0 d (let l = among.1 in omega arith) (read_at supers among.0 d among.1 (sym among.2)) p)
  ];
  only = λ e among. elim (Contains-push_cases ds c e among) [
    | inl l ↦ before.only e l
    | inr q ↦ subst (λ (x : ClassId). Sub w c.number x.number × DeclaresFieldIn w name desc x.number) q (sub_itself w c.number, declares)
  ];
}

pub fields_end : (w : List Shape) (c : ClassId) (name : List ℕ) (desc : Desc) (supers : List ClassId) (n : ℕ) (ds : List ClassId) → length supers ≤ n → AreProperSupers w c.number supers
    → (DeclaresFieldIn w name desc c.number → ⊥) → AreDeclaringSoFar w c.number name desc supers n ds → AreDeclaring w c.number name desc ds
fields_end w c name desc supers n ds past exact none before = record {
  all = λ d s p. elim (sub_cases w c.number d.number s) [
    | inl e ↦ absurd (none (subst (DeclaresFieldIn w name desc) (sym e) p))
    | inr q ↦
        let among = exact.all d q in
        before.all among.0 d (let l = among.1 in omega arith) (read_at supers among.0 d among.1 (sym among.2)) p
  ];
  only = before.only;
}

-- ---- the first one, by either predicate, above a class

leads_above : (w : List Shape) (P Q : ℕ → Type 0) (d : ℕ) → ((e : ℕ) → Sub w d e → P e → Q e) → LeadsUpTo w P d → LeadsUpTo w Q d
leads_above w P Q d f p = (p.0, p.1, f p.0 p.1 p.2)

way_above : (w : List Shape) (P Q : ℕ → Type 0) (c d : ℕ) → ((e : ℕ) → Sub w c e → P e → Q e) → ((e : ℕ) → Sub w c e → Q e → P e) → IsFirstWay w P c d → IsFirstWay w Q c d
way_above w P Q c d f g way = (
  way.0,
  way.1,
  record {
    place = way.2.place;
    name = way.2.name;
    at_place = way.2.at_place;
    named = way.2.named;
    leads = leads_above w P Q d (λ e s. f e (link c d e (way_super w P c d way) s)) way.2.leads;
    before = λ k other e lt got named leads. way.2.before k other e lt got named
        (leads_above w Q P e (λ x s. g x (link c e x (super_from_place w c way.0 k other e way.1 got named) s)) leads);
  },
)

first_above_by : (w : List Shape) (P Q : ℕ → Type 0) (n c d : ℕ) → ((e : ℕ) → Sub w c e → P e → Q e) → ((e : ℕ) → Sub w c e → Q e → P e) → IsFirstBy w P n c d → IsFirstBy w Q n c d
first_above_by w P Q zero c d f g p = (p.0, f d (same c d p.0) p.1)
first_above_by w P Q (suc n) c d f g p =
    let step = way_super w P c p.1 p.2 in (
      (λ q. p.0 (g c (sub_itself w c) q)),
      p.1,
      way_above w P Q c p.1 f g p.2,
      first_above_by w P Q n p.1 d (λ e s. f e (link c p.1 e step s)) (λ e s. g e (link c p.1 e step s)) p.3,
    )

pub first_above_same : (w : List Shape) (P Q : ℕ → Type 0) (c d : ℕ) → ((e : ℕ) → Sub w c e → P e → Q e) → ((e : ℕ) → Sub w c e → Q e → P e) → IsFirst w P c d → IsFirst w Q c d
first_above_same w P Q c d f g p = (p.0, first_above_by w P Q p.0 c d f g p.1)

-- ---- targets

pub field_target : (w : List Shape) (c : ℕ) (name : List ℕ) (desc : Desc) (ds : List ClassId) → AreDeclaring w c name desc ds → (e : ℕ) → Sub w c e → DeclaresFieldIn w name desc e → IsTarget ds e
field_target w c name desc ds exact e s p = let d : ClassId = record { number = e } in exact.all d s p

pub target_field : (w : List Shape) (c : ℕ) (name : List ℕ) (desc : Desc) (ds : List ClassId) → AreDeclaring w c name desc ds → (e : ℕ) → IsTarget ds e → DeclaresFieldIn w name desc e
target_field w c name desc ds exact e t = let d : ClassId = record { number = e } in (exact.only d t).1

pub field_leads : (w : List Shape) (c : ℕ) (name : List ℕ) (desc : Desc) (ds : List ClassId) → AreDeclaring w c name desc ds → LeadsUpTo w (DeclaresFieldIn w name desc) c → LeadsUpTo w (IsTarget ds) c
field_leads w c name desc ds exact p = (p.0, p.1, field_target w c name desc ds exact p.0 p.1 p.2)

pub fields_here : (w : List Shape) (c : ℕ) (name : List ℕ) (desc : Desc) (ds : List ClassId) → c < length w → AreDeclaring w c name desc ds → AreClasses w ds
fields_here w c name desc ds here exact = record { here = λ d among. sub_here w c d.number here (exact.only d among).0 }

-- ---- the reference

pub no_field : (w : List Shape) (r : FieldRef) (named : ℕ) → IsWorld w → IsNamed w named r.class → (LeadsUpTo w (DeclaresFieldIn w r.name r.desc) named → ⊥) → (f : FieldId) → ResolvesField w r f → ⊥
no_field w r named world name none f p =
    none (subst (LeadsUpTo w (DeclaresFieldIn w r.name r.desc)) (world.numbered.distinct p.named named r.class p.name name) (first_leads w (DeclaresFieldIn w r.name r.desc) p.named f.class.number p.first))
