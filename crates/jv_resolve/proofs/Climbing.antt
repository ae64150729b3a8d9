-- Climbing the superclasses of a class until a method is found.
use Rattle.std.proofs.Common.{◌≡◌, ℕ, ◌+◌, ◌<◌, ◌≤◌, List, length, subst, sym, ◌∙◌, ap, arith, inl, inr, refl, add-one}
use Rattle.std.proofs.lemmas.Bool.{cases_lt}
use Rattle.jv_types.specs.declared.desc.MethodDesc.{MethodDesc}
use Rattle.jv_types.specs.declared.ids.ClassId.{ClassId}
use Rattle.jv_types.specs.declared.ids.MethodId.{MethodId}
use Rattle.jv_types.specs.declared.shapes.Shape.{Shape}
use Rattle.jv_world.specs.Worlds.{Climbs, HasSuperclass, IsWorld}
use Rattle.jv_resolve.specs.declared.nearest.Wanted.{Wanted}
use Rattle.jv_resolve.specs.declared.nearest.Wanted.TheVariants.{Declared, Inherited, Overriding, Special}
use Rattle.jv_resolve.specs.Members.{DeclaresMethod}
use Rattle.jv_resolve.specs.Inheriting.{IsNearest, HasNone}
use Rattle.jv_resolve.specs.Steps.Wanted.{IsWanted}
use Rattle.jv_resolve.proofs.Hierarchy.{climbs_more, one_climb, climbs_past, super_here}
use Rattle.jv_resolve.proofs.MembersLemmas.{declares_one}

-- so many links were climbed, to the class `at`, and nothing was found below it
pub record IsClimbing (w : List Shape) (P : MethodId → Type 0) (c links at : ℕ) : Type 0 where
  pub here : at < length w
  pub climbs : Climbs w links c at
  pub none_below : (n : ℕ) (m : MethodId) → n < links → Climbs w n c m.class.number → P m → ⊥
  pub world : IsWorld w
  pub low : world.rank at + links ≤ world.rank c

pub climb_start : (w : List Shape) (P : MethodId → Type 0) (c : ℕ) → IsWorld w → c < length w → IsClimbing w P c 0 c
climb_start w P c world here = record {
  here = here;
  climbs = refl;
  none_below = λ n m lt p q. absurd (omega arith);
  world = world;
  low = omega arith;
}

pub climb_more : (w : List Shape) (P : MethodId → Type 0) (c links at e : ℕ) → IsClimbing w P c links at → ((m : MethodId) → m.class.number ≡ at → P m → ⊥)
    → HasSuperclass w at e → IsClimbing w P c (links + 1) e
climb_more w P c links at e before none step = record {
  here = super_here w at e (inl step);
  climbs = subst (λ (n : ℕ). Climbs w n c e) (sym (add-one links)) (climbs_more w links c at e before.climbs step);
  none_below = λ n m lt p q. elim (cases_lt n links) [
    | inl l ↦ before.none_below n m l p q
    | inr g ↦
        let same : n ≡ links = omega arith in
        none m (one_climb w before.world links c m.class.number at (subst (λ (k : ℕ). Climbs w k c m.class.number) same p) before.climbs) q
  ];
  world = before.world;
  low = let f = before.world.falls at e (inl step) in let l = before.low in omega arith;
}

pub climb_found : (w : List Shape) (P : MethodId → Type 0) (c links at : ℕ) (m : MethodId) → IsClimbing w P c links at → m.class.number ≡ at → P m → IsNearest w P c m
climb_found w P c links at m before e holds = record {
  links = links;
  leads = subst (λ (k : ℕ). Climbs w links c k) (sym e) before.climbs;
  meets = holds;
  nearest = before.none_below;
}

pub climb_end : (w : List Shape) (P : MethodId → Type 0) (c links at : ℕ) → IsClimbing w P c links at → ((m : MethodId) → m.class.number ≡ at → P m → ⊥)
    → ((d : ℕ) → HasSuperclass w at d → ⊥) → HasNone w P c
climb_end w P c links at before none top n m p q = elim (cases_lt n links) [
  | inl l ↦ before.none_below n m l p q
  | inr g ↦ elim (cases_lt links n) [
    | inl l ↦ let past = climbs_past w before.world links n c at m.class.number before.climbs p l in top past.0 past.1
    | inr h ↦
        let same : n ≡ links = omega arith in
        none m (one_climb w before.world links c m.class.number at (subst (λ (k : ℕ). Climbs w k c m.class.number) same p) before.climbs) q
  ]
]

pub climb_past : (w : List Shape) (P : MethodId → Type 0) (c links at : ℕ) → IsClimbing w P c links at → c < length w → length w ≤ links → ⊥
climb_past w P c links at before here past =
    let b = before.world.bound c here in
    let l = before.low in
    omega arith

-- ---- what is wanted is declared

pub wanted_declared : (w : List Shape) (name : List ℕ) (desc : MethodDesc) (wanted : Wanted) (m : MethodId) → IsWanted w name desc wanted m → DeclaresMethod w name desc m
wanted_declared w name desc Declared m p = p
wanted_declared w name desc Inherited m p = p.0
wanted_declared w name desc (Overriding resolved) m p = p.0
wanted_declared w name desc (Special resolved) m p = p.0

pub none_declared : (w : List Shape) (name : List ℕ) (desc : MethodDesc) (wanted : Wanted) (c : ℕ)
    → ((m : MethodId) → m.class.number ≡ c → DeclaresMethod w name desc m → ⊥) → (m : MethodId) → m.class.number ≡ c → IsWanted w name desc wanted m → ⊥
none_declared w name desc wanted c none m e p = none m e (wanted_declared w name desc wanted m p)

-- the one declared is not wanted, so none is
pub none_wanted : (w : List Shape) (name : List ℕ) (desc : MethodDesc) (wanted : Wanted) (c : ClassId) (d : MethodId) → d.class ≡ c → DeclaresMethod w name desc d
    → (IsWanted w name desc wanted d → ⊥) → (m : MethodId) → m.class.number ≡ c.number → IsWanted w name desc wanted m → ⊥
none_wanted w name desc wanted c d here declared fails m e p =
    let number : m.class.number ≡ d.class.number = e ∙ sym (ap (λ (k : ClassId). k.number) here) in
    fails (subst (IsWanted w name desc wanted) (declares_one w name desc m d (wanted_declared w name desc wanted m p) declared number) p)
