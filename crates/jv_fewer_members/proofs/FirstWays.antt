-- Searches depth first, in the whole world and in the part.
use Rattle.std.proofs.Common.{◌≡◌, ℕ, zero, suc, ◌<◌, ◌≤◌, ◌⊎◌, List, ◌++◌, Option, Some, None, slice_get, refl, ap, ◌∙◌, subst, sym, inl, inr, arith}
use Rattle.std.specs.Prelude.{option_to_list}
use Rattle.jv_types.specs.declared.shapes.Shape.{Shape}
use Rattle.jv_world.specs.Worlds.{HasSuper, IsNamed, IsWorld, ProperSub, Sub, same, link}
use Rattle.jv_resolve.specs.DepthFirst.{direct_supers, IsFirst, IsFirstBy, IsFirstLeading, IsFirstWay, LeadsUpTo}
use Rattle.jv_resolve.specs.Steps.Targets.{NoneLeads}
use Rattle.jv_resolve.proofs.Going.{no_way, no_way_parent, way_interface, way_parent, way_super}
use Rattle.jv_resolve.proofs.Hierarchy.{sub_cases}
use Rattle.jv_fewer_members.proofs.Heads.{IsSameHead, SameHeads, named, sub}

first_above : (w : List Shape) (P : ℕ → Type 0) (n c d : ℕ) → IsFirstBy w P n c d → Sub w c d
first_above w P zero c d p = same c d p.0
first_above w P (suc n) c d p = link c p.1 d (way_super w P c p.1 p.2) (first_above w P n p.1 d p.3)

-- ---- some name leads, so one is the first to lead

no_leading_below : (w : List Shape) (P : ℕ → Type 0) (names : List (List ℕ)) (k : ℕ) → ((d : ℕ) (p : IsFirstLeading w P names d) → p.place ≤ k → ⊥)
    → (n j : ℕ) (name : List ℕ) (e : ℕ) → j < n → j ≤ k → slice_get names j ≡ Some name → IsNamed w e name → LeadsUpTo w P e → ⊥
no_leading_below w P names k none zero j name e lt le got at_name leads = omega (arith, lt)
no_leading_below w P names k none (suc n) j name e lt le got at_name leads =
    none e
    (record {
      place = j;
      name = name;
      at_place = got;
      named = at_name;
      leads = leads;
      before = λ i other x lower got_other at_other leads_other. no_leading_below w P names k none n i other x (omega (arith, lt, lower)) (omega (arith, le, lower)) got_other at_other leads_other;
    })
    le

no_leading : (w : List Shape) (P : ℕ → Type 0) (names : List (List ℕ)) (k : ℕ) → ((d : ℕ) (p : IsFirstLeading w P names d) → p.place ≤ k → ⊥)
    → (j : ℕ) (name : List ℕ) (e : ℕ) → j ≤ k → slice_get names j ≡ Some name → IsNamed w e name → LeadsUpTo w P e → ⊥
no_leading w P names k none j name e le got at_name leads = no_leading_below w P names k none (suc j) j name e (omega arith) le got at_name leads

none_leads : (w : List Shape) (P : ℕ → Type 0) (names : List (List ℕ)) → ((d : ℕ) → IsFirstLeading w P names d → ⊥) → NoneLeads w P names
none_leads w P names none k name e got at_name leads = no_leading w P names k (λ d p le. none d p) k name e (omega arith) got at_name leads

-- ---- a class leads to such a one, so one is the first

-- where no first way leads from a class to a first one, no way does
no_way_up : (w : List Shape) (P : ℕ → Type 0) (c : ℕ) (s : Shape) → slice_get w c ≡ Some s → ((d : ℕ) → IsFirstWay w P c d → ⊥) → (parent : Option (List ℕ)) → s.parent ≡ parent
    → (d : ℕ) → HasSuper w c d → LeadsUpTo w P d → ⊥
no_way_up w P c s at none None e d step leads =
    no_way w P c s at (none_leads w P s.interfaces (λ x p. none x (way_interface w P c s x at p))) e d step leads
no_way_up w P c s at none (Some name) e d step leads =
    let by_interfaces = none_leads w P s.interfaces (λ x p. none x (way_interface w P c s x at p)) in
    no_way_parent w P c s name at by_interfaces e (λ x at_name up. none x (way_parent w P c s name x at by_interfaces e at_name up)) d step leads

-- neither the class nor one above it is such a one, where no first way leads from it
nowhere_up : (w : List Shape) (P : ℕ → Type 0) (c : ℕ) → (P c → ⊥) → ((d : ℕ) → IsFirstWay w P c d → ⊥) → (e : ℕ) → P e → (c ≡ e) ⊎ ProperSub w c e → ⊥
nowhere_up w P c not_here none e holds (inl is) = not_here (subst P (sym is) holds)
nowhere_up w P c not_here none e holds (inr (x, inl step, up)) = no_way_up w P c step.0 step.2 none step.0.parent refl x (inl step) (e, up, holds)
nowhere_up w P c not_here none e holds (inr (x, inr step, up)) = no_way_up w P c step.0 step.2 none step.0.parent refl x (inr step) (e, up, holds)

no_first_below : (w : List Shape) (P : ℕ → Type 0) (world : IsWorld w) (n c : ℕ) → world.rank c < n → ((d : ℕ) → IsFirst w P c d → ⊥) → LeadsUpTo w P c → ⊥
no_first_below w P world zero c low none leads = omega (arith, low)
no_first_below w P world (suc n) c low none leads =
    let not_here : P c → ⊥ = λ p. none c (0, (refl, p)) in
    nowhere_up w P c not_here
    (λ d way.
    let falls = world.falls c d (way_super w P c d way) in
    no_first_below w P world n d (omega (arith, low, falls)) (λ e p. none e (suc p.0, (not_here, d, way, p.1))) way.2.leads)
    leads.0 leads.2 (sub_cases w c leads.0 leads.1)

pub no_first : (w : List Shape) (P : ℕ → Type 0) → IsWorld w → (c : ℕ) → ((d : ℕ) → IsFirst w P c d → ⊥) → LeadsUpTo w P c → ⊥
no_first w P world c none leads = no_first_below w P world (suc (world.rank c)) c (omega arith) none leads

-- ---- in two worlds

same_supers : (s t : Shape) → IsSameHead s t → direct_supers s ≡ direct_supers t
same_supers s t head =
    ap (λ (l : List (List ℕ)). l ++ option_to_list s.parent) head.interfaces ∙ ap (λ (o : Option (List ℕ)). t.interfaces ++ option_to_list o) head.parent

-- Where each class of which Q holds is one of which P does, what is first by P in the one is first by Q in the other, if Q holds of it.
module _ {w v : List Shape} (into : SameHeads w v) (back : SameHeads v w) {P Q : ℕ → Type 0} (only : (e : ℕ) → Q e → P e) where
  way_into : (c e d : ℕ) → IsFirstWay w P c e → Sub w e d → Q d → IsFirstWay v Q c e
  way_into c e d way up holds =
      let t = into.each c way.0 way.1 in (
        t.0,
        t.1,
        subst (λ (names : List (List ℕ)). IsFirstLeading v Q names e) (same_supers way.0 t.0 t.2) (record {
          place = way.2.place;
          name = way.2.name;
          at_place = way.2.at_place;
          named = named into e way.2.name way.2.named;
          leads = (d, sub into e d up, holds);
          before = λ k other x lt got at_name leads.
              way.2.before k other x lt got (named back x other at_name) (leads.0, sub back x leads.0 leads.1, only leads.0 leads.2);
        }),
      )

  first_by_into : (n c d : ℕ) → IsFirstBy w P n c d → Q d → IsFirstBy v Q n c d
  first_by_into zero c d p holds = (p.0, holds)
  first_by_into (suc n) c d p holds = ((λ q. p.0 (only c q)), p.1, way_into c p.1 d p.2 (first_above w P n p.1 d p.3) holds, first_by_into n p.1 d p.3 holds)

  pub first_into : (c d : ℕ) → IsFirst w P c d → Q d → IsFirst v Q c d
  first_into c d p holds = (p.0, first_by_into p.0 c d p.1 holds)

-- Where Q holds of what is first by P in the world w, what is first by Q in the other is first by P in w.
module _ {w v : List Shape} (world : IsWorld w) (into : SameHeads w v) (back : SameHeads v w) {P Q : ℕ → Type 0} (only : (e : ℕ) → Q e → P e) where
  way_back : (c e : ℕ) → ((d : ℕ) → IsFirst w P c d → Q d) → (P c → ⊥) → IsFirstWay v Q c e → IsFirstWay w P c e
  way_back c e kept not_here way =
      let s = back.each c way.0 way.1 in
      let names : direct_supers way.0 ≡ direct_supers s.0 = same_supers way.0 s.0 s.2 in (
        s.0,
        s.1,
        record {
          place = way.2.place;
          name = way.2.name;
          at_place = subst (λ (l : List (List ℕ)). slice_get l way.2.place ≡ Some way.2.name) names way.2.at_place;
          named = named back e way.2.name way.2.named;
          leads = (way.2.leads.0, sub back e way.2.leads.0 way.2.leads.1, only way.2.leads.0 way.2.leads.2);
          before = λ k other x lt got at_name leads.
              no_leading w P (direct_supers s.0) k (λ d first le.
              no_first w P world d (λ y found.
              let all : IsFirst w P c y = (suc found.0, (not_here, d, (s.0, s.1, first), found.1)) in
              let place : slice_get (direct_supers way.0) first.place ≡ Some first.name = subst (λ (l : List (List ℕ)). slice_get l first.place ≡ Some first.name) (sym names) first.at_place in
              way.2.before first.place first.name d (omega (arith, lt, le)) place (named into d first.name first.named) (y, sub into d y (first_above w P found.0 d y found.1), kept y all))
              first.leads)
              k other x (omega arith) got at_name leads;
        },
      )

  first_by_back : (n c d : ℕ) → ((e : ℕ) → IsFirst w P c e → Q e) → IsFirstBy v Q n c d → IsFirstBy w P n c d
  first_by_back zero c d kept q = (q.0, only d q.1)
  first_by_back (suc n) c d kept q =
      let not_here : P c → ⊥ = λ p. q.0 (kept c (0, (refl, p))) in
      let way = way_back c q.1 kept not_here q.2 in
      (not_here, q.1, way, first_by_back n q.1 d (λ e p. kept e (suc p.0, (not_here, q.1, way, p.1))) q.3)

  pub first_back : (c d : ℕ) → ((e : ℕ) → IsFirst w P c e → Q e) → IsFirst v Q c d → IsFirst w P c d
  first_back c d kept q = (q.0, first_by_back q.0 c d kept q.1)
