-- Going up depth first.
use Rattle.std.proofs.Common.{◌≡◌, ℕ, zero, suc, ◌+◌, ◌<◌, ◌≤◌, List, [], ◌∷◌, ◌++◌, Option, Some, None, length, subst, sym, ◌∙◌, ap, arith, inl, inr, refl, add-one}
use Rattle.std.specs.Prelude.{option_to_list}
use Rattle.std.specs.List.{slice_get, Contains}
use Rattle.std.proofs.lemmas.Bool.{cases_lt}
use Rattle.std.proofs.lemmas.Option.{slice_get_within}
use Rattle.jv_lists.proofs.Places.{get_front}
use Rattle.jv_types.specs.declared.shapes.Shape.{Shape}
use Rattle.jv_world.specs.Worlds.{IsNamed, HasInterface, HasSuper, Sub, same, link, IsWorld}
use Rattle.jv_resolve.specs.Steps.Targets.{NoneLeads}
use Rattle.jv_resolve.specs.DepthFirst.{direct_supers, LeadsUpTo, IsFirstLeading, IsFirstWay, IsFirstBy, IsFirst}
use Rattle.jv_resolve.proofs.Hierarchy.{one_shape, super_here}
use Rattle.jv_resolve.proofs.PlacesLemmas.{read_at, among_from_get}

-- steps that each go the first way from a class that isn't such a one
abbrev pub Ways : List Shape → (ℕ → Type 0) → ℕ → ℕ → ℕ → Type 0
Ways w P zero c d = c ≡ d
Ways w P (suc n) c d = (P c → ⊥) × (e : ℕ) × IsFirstWay w P c e × Ways w P n e d

pub ways_more : (w : List Shape) (P : ℕ → Type 0) (n c d e : ℕ) → Ways w P n c d → (P d → ⊥) → IsFirstWay w P d e → Ways w P (suc n) c e
ways_more w P zero c d e p none way = ((λ q. none (subst P p q)), e, subst (λ (x : ℕ). IsFirstWay w P x e) (sym p) way, refl)
ways_more w P (suc n) c d e p none way = (p.0, p.1, p.2, ways_more w P n p.1 d e p.3 none way)

pub ways_end : (w : List Shape) (P : ℕ → Type 0) (n c d : ℕ) → Ways w P n c d → P d → IsFirstBy w P n c d
ways_end w P zero c d p holds = (p, holds)
ways_end w P (suc n) c d p holds = (p.0, p.1, p.2, ways_end w P n p.1 d p.3 holds)

-- ---- direct supers

get_back : (xs ys : List (List ℕ)) (k : ℕ) (x : List ℕ) → k < length xs → slice_get (xs ++ ys) k ≡ Some x → slice_get xs k ≡ Some x
get_back [] ys k x lt e = absurd (omega arith)
get_back (y ∷ xs) ys zero x lt e = e
get_back (y ∷ xs) ys (suc k) x lt e = get_back xs ys k x (omega arith) e

get_end : (xs : List (List ℕ)) (y : List ℕ) → slice_get (xs ++ y ∷ []) (length xs) ≡ Some y
get_end [] y = refl
get_end (x ∷ xs) y = get_end xs y

-- the superclass comes behind the superinterfaces
get_parent : (xs : List (List ℕ)) (y : List ℕ) (k : ℕ) (x : List ℕ) → slice_get (xs ++ y ∷ []) k ≡ Some x → length xs ≤ k → x ≡ y
get_parent [] y zero x e past = cc
get_parent [] y (suc k) x e past = absurd cc
get_parent (z ∷ xs) y zero x e past = absurd (omega arith)
get_parent (z ∷ xs) y (suc k) x e past = get_parent xs y k x e (omega arith)

-- the first way by a superinterface
pub way_interface : (w : List Shape) (P : ℕ → Type 0) (c : ℕ) (s : Shape) (d : ℕ) → slice_get w c ≡ Some s → IsFirstLeading w P s.interfaces d → IsFirstWay w P c d
way_interface w P c s d at way =
    let within = slice_get_within s.interfaces way.place way.name way.at_place in (
      s,
      at,
      record {
        place = way.place;
        name = way.name;
        at_place = get_front s.interfaces (option_to_list s.parent) way.place way.name way.at_place;
        named = way.named;
        leads = way.leads;
        before = λ k other e lt got named. way.before k other e lt (get_back s.interfaces (option_to_list s.parent) k other (omega arith) got) named;
      },
    )

-- the first way by the superclass
pub way_parent : (w : List Shape) (P : ℕ → Type 0) (c : ℕ) (s : Shape) (name : List ℕ) (d : ℕ) → slice_get w c ≡ Some s → NoneLeads w P s.interfaces
    → s.parent ≡ Some name → IsNamed w d name → LeadsUpTo w P d → IsFirstWay w P c d
way_parent w P c s name d at none parent named leads = (
  s,
  at,
  record {
    place = length s.interfaces;
    name = name;
    at_place = subst (λ (o : Option (List ℕ)). slice_get (s.interfaces ++ option_to_list o) (length s.interfaces) ≡ Some name) (sym parent) (get_end s.interfaces name);
    named = named;
    leads = leads;
    before = λ k other e lt got at_name. none k other e (get_back s.interfaces (option_to_list s.parent) k other lt got) at_name;
  },
)

interface_none : (w : List Shape) (P : ℕ → Type 0) (c : ℕ) (s : Shape) → slice_get w c ≡ Some s → NoneLeads w P s.interfaces → (d : ℕ) → HasInterface w c d → LeadsUpTo w P d → ⊥
interface_none w P c s at none d step leads =
    let same : step.0 ≡ s = one_shape w c step.0 s step.2 at in
    let among : Contains s.interfaces step.1 = subst (λ (t : Shape). Contains t.interfaces step.1) same step.3 in
    none among.0 step.1 d (read_at s.interfaces among.0 step.1 among.1 (sym among.2)) step.4 leads

-- no way, where the superclass has none either
pub no_way_parent : (w : List Shape) (P : ℕ → Type 0) (c : ℕ) (s : Shape) (name : List ℕ) → slice_get w c ≡ Some s → NoneLeads w P s.interfaces → s.parent ≡ Some name
    → ((d : ℕ) → IsNamed w d name → LeadsUpTo w P d → ⊥) → (d : ℕ) → HasSuper w c d → LeadsUpTo w P d → ⊥
no_way_parent w P c s name at none parent above d (inl step) leads =
    let same : step.0 ≡ s = one_shape w c step.0 s step.2 at in
    let names : Some step.1 ≡ Some name = sym step.3 ∙ ap (λ (t : Shape). t.parent) same ∙ parent in
    let name_is : step.1 ≡ name = cc in
    above d (subst (IsNamed w d) name_is step.4) leads
no_way_parent w P c s name at none parent above d (inr step) leads = interface_none w P c s at none d step leads

-- no way, where there is no superclass
pub no_way : (w : List Shape) (P : ℕ → Type 0) (c : ℕ) (s : Shape) → slice_get w c ≡ Some s → NoneLeads w P s.interfaces → s.parent ≡ None
    → (d : ℕ) → HasSuper w c d → LeadsUpTo w P d → ⊥
no_way w P c s at none parent d (inl step) leads =
    let same : step.0 ≡ s = one_shape w c step.0 s step.2 at in
    let names : Some step.1 ≡ None = sym step.3 ∙ ap (λ (t : Shape). t.parent) same ∙ parent in
    absurd cc
no_way w P c s at none parent d (inr step) leads = interface_none w P c s at none d step leads

-- ---- the loop

parent_at : (xs : List (List ℕ)) (o : Option (List ℕ)) (k : ℕ) (name : List ℕ) → slice_get (xs ++ option_to_list o) k ≡ Some name → length xs ≤ k → o ≡ Some name
parent_at [] None k name e past = absurd cc
parent_at [] (Some y) zero name e past = e
parent_at [] (Some y) (suc k) name e past = absurd cc
parent_at (x ∷ xs) o zero name e past = absurd (omega arith)
parent_at (x ∷ xs) o (suc k) name e past = parent_at xs o k name e (omega arith)

-- the class of a name among the direct supers is one
pub super_from_place : (w : List Shape) (c : ℕ) (s : Shape) (k : ℕ) (name : List ℕ) (d : ℕ) → slice_get w c ≡ Some s → slice_get (direct_supers s) k ≡ Some name → IsNamed w d name → HasSuper w c d
super_from_place w c s k name d at got named = elim (cases_lt k (length s.interfaces)) [
  | inl l ↦ inr (s, name, at, among_from_get s.interfaces k name (get_back s.interfaces (option_to_list s.parent) k name l got), named)
  | inr g ↦ inl (s, name, at, parent_at s.interfaces s.parent k name got g, named)
]

pub way_super : (w : List Shape) (P : ℕ → Type 0) (c d : ℕ) → IsFirstWay w P c d → HasSuper w c d
way_super w P c d way = super_from_place w c way.0 way.2.place way.2.name d way.1 way.2.at_place way.2.named

-- so many first ways were gone, to the class `at`
pub record IsGoing (w : List Shape) (P : ℕ → Type 0) (c links at : ℕ) : Type 0 where
  pub here : at < length w
  pub ways : Ways w P links c at
  pub still : LeadsUpTo w P c → LeadsUpTo w P at
  pub world : IsWorld w
  pub low : world.rank at + links ≤ world.rank c

pub going_start : (w : List Shape) (P : ℕ → Type 0) (c : ℕ) → IsWorld w → c < length w → IsGoing w P c 0 c
going_start w P c world here = record { here = here; ways = refl; still = λ l. l; world = world; low = omega arith }

pub going_more : (w : List Shape) (P : ℕ → Type 0) (c links at e : ℕ) → IsGoing w P c links at → (P at → ⊥) → IsFirstWay w P at e → IsGoing w P c (links + 1) e
going_more w P c links at e before none way =
    let step = way_super w P at e way in
    record {
      here = super_here w at e step;
      ways = subst (λ (n : ℕ). Ways w P n c e) (sym (add-one links)) (ways_more w P links c at e before.ways none way);
      still = λ l. way.2.leads;
      world = before.world;
      low = let f = before.world.falls at e step in let l = before.low in omega arith;
    }

pub going_found : (w : List Shape) (P : ℕ → Type 0) (c links at : ℕ) → IsGoing w P c links at → P at → IsFirst w P c at
going_found w P c links at before holds = (links, ways_end w P links c at before.ways holds)

-- where nothing above and not the class itself is such a one, nothing leads there
pub nothing_leads : (w : List Shape) (P : ℕ → Type 0) (c : ℕ) → (P c → ⊥) → ((d : ℕ) → HasSuper w c d → LeadsUpTo w P d → ⊥) → LeadsUpTo w P c → ⊥
nothing_leads w P c none ways leads = go c leads.0 leads.1 leads.2 none ways
  where
    go : (c e : ℕ) → Sub w c e → P e → (P c → ⊥) → ((d : ℕ) → HasSuper w c d → LeadsUpTo w P d → ⊥) → ⊥
    go c e (same x y p) holds none ways = none (subst P (sym p) holds)
    go c e (link x y z step rest) holds none ways = ways y step (z, rest, holds)

pub going_end : (w : List Shape) (P : ℕ → Type 0) (c links at : ℕ) → IsGoing w P c links at → (P at → ⊥) → ((d : ℕ) → HasSuper w at d → LeadsUpTo w P d → ⊥) → LeadsUpTo w P c → ⊥
going_end w P c links at before none ways leads = nothing_leads w P at none ways (before.still leads)

pub going_past : (w : List Shape) (P : ℕ → Type 0) (c links at : ℕ) → IsGoing w P c links at → c < length w → length w ≤ links → ⊥
going_past w P c links at before here past =
    let b = before.world.bound c here in
    let l = before.low in
    omega arith
