-- Searches along superclasses and among superinterfaces, in the whole world and in the part.
use Rattle.std.proofs.Common.{◌≡◌, ℕ, zero, suc, ◌<◌, ◌≤◌, ◌⊎◌, List, sym, ap, ◌∙◌, subst, inl, inr, arith}
use Rattle.jv_types.specs.declared.desc.MethodDesc.{MethodDesc}
use Rattle.jv_types.specs.declared.ids.MethodId.{MethodId}
use Rattle.jv_types.specs.declared.shapes.Shape.{Shape}
use Rattle.jv_world.specs.Worlds.{Climbs, ProperSub, Sub, same, link}
use Rattle.jv_resolve.specs.Inheriting.{HasNone, HasNoSingleDefault, IsMaximallySpecific, IsNearest, IsSingleDefault, IsSuperinterfaceMethod}
use Rattle.jv_resolve.specs.Members.{DeclaresMethod, HasMethod, IsConcrete, IsInheritable, IsInterfaceClass}
use Rattle.jv_resolve.specs.DepthFirst.{IsFirst}
use Rattle.jv_resolve.specs.Resolving.{DeclaresFor, ResolvesAbove}
use Rattle.jv_resolve.proofs.AboveLemmas.{first_holds}
use Rattle.jv_resolve.proofs.Hierarchy.{sub_from_proper}
use Rattle.jv_resolve.proofs.MembersLemmas.{declared_here, declares_one}
use Rattle.jv_fewer_members.specs.Keeping.{KeepsAlike}
use Rattle.jv_fewer_members.specs.Parts.{HasFewerMembers, Places, whole_method}
use Rattle.jv_fewer_members.proofs.FirstWays.{first_into}
use Rattle.jv_fewer_members.proofs.Heads.{heads_into, heads_back, climbs, proper, interface_class}
use Rattle.jv_fewer_members.proofs.KeptMembers.{concrete_into, concrete_back, declares_into, declares_part, inheritable_into, inheritable_back, one_whole}
use Rattle.jv_fewer_members.proofs.Together.{KeepsAbove}

pub climbs_above : (w : List Shape) (n c d : ℕ) → Climbs w n c d → Sub w c d
climbs_above w zero c d p = same c d p
climbs_above w (suc n) c d p = link c p.0 d (inl p.1) (climbs_above w n p.0 d p.2)

-- ---- one is found along the superclasses, so one is the nearest

no_nearest_below : (w : List Shape) (P : MethodId → Type 0) (c k : ℕ) → ((m : MethodId) (p : IsNearest w P c m) → p.links ≤ k → ⊥)
    → (n j : ℕ) (m : MethodId) → j < n → j ≤ k → Climbs w j c m.class.number → P m → ⊥
no_nearest_below w P c k none zero j m lt le up p = omega (arith, lt)
no_nearest_below w P c k none (suc n) j m lt le up p =
    none m
    (record {
      links = j;
      leads = up;
      meets = p;
      nearest = λ i other lower other_up q. no_nearest_below w P c k none n i other (omega (arith, lt, lower)) (omega (arith, le, lower)) other_up q;
    })
    le

-- no nearest one is so few links away, so none is
pub no_nearest : (w : List Shape) (P : MethodId → Type 0) (c k : ℕ) → ((m : MethodId) (p : IsNearest w P c m) → p.links ≤ k → ⊥) → (m : MethodId) → Climbs w k c m.class.number → P m → ⊥
no_nearest w P c k none m up p = no_nearest_below w P c k none (suc k) k m (omega arith) (omega arith) up p

-- ---- in both worlds

-- Q holds of a method of the part where P holds of it in the whole; and each one of the class c or above it of which P holds is in the part
pub record AgreeAbove (w v : List Shape) (at : Places) (c : ℕ) (Q P : MethodId → Type 0) : Type 0 where
  pub here : (n : MethodId) → Q n → HasMethod v n
  pub into : (n : MethodId) → Q n → P (whole_method at n)
  pub back : (m : MethodId) → Sub w c m.class.number → P m → (n : MethodId) × (m ≡ whole_method at n) × Q n

-- what is found above a class is a superinterface method
pub above_method : (w : List Shape) (c : ℕ) (name : List ℕ) (desc : MethodDesc) (m : MethodId) → ResolvesAbove w c name desc m → IsSuperinterfaceMethod w c name desc m
above_method w c name desc m p = pick p.found
  where
    pick : IsSingleDefault w c name desc m ⊎ (HasNoSingleDefault w c name desc × IsFirst w (DeclaresFor w c name desc) c m.class.number) → IsSuperinterfaceMethod w c name desc m
    pick (inl q) = q.specific.method
    pick (inr (none, first)) =
        let d = first_holds w (DeclaresFor w c name desc) c m.class.number first in
        subst (IsSuperinterfaceMethod w c name desc) (declares_one w name desc d.0 m d.1.1.0 p.declared d.2) d.1

pub class_is : (at : Places) (m n : MethodId) → m ≡ whole_method at n → m.class.number ≡ n.class.number
class_is at m n e = ap (λ (x : MethodId). x.class.number) e

module _ {w v : List Shape} {at : Places} (fewer : HasFewerMembers w v at) where
  -- ---- along the superclasses

  module _ {c : ℕ} {Q P : MethodId → Type 0} (agree : AgreeAbove w v at c Q P) where
    pub nearest_into : (n : MethodId) → IsNearest v Q c n → IsNearest w P c (whole_method at n)
    nearest_into n q = record {
      links = q.links;
      leads = climbs (heads_back fewer) q.links c n.class.number q.leads;
      meets = agree.into n q.meets;
      nearest = λ k other lt up p.
          let o = agree.back other (climbs_above w k c other.class.number up) p in
          q.nearest k o.0 lt (subst (Climbs v k c) (class_is at other o.0 o.1) (climbs (heads_into fewer) k c other.class.number up)) o.2;
    }

    pub nearest_back : (m : MethodId) → IsNearest w P c m → (n : MethodId) × (m ≡ whole_method at n) × IsNearest v Q c n
    nearest_back m p =
        let r = agree.back m (climbs_above w p.links c m.class.number p.leads) p.meets in (
          r.0,
          r.1,
          record {
            links = p.links;
            leads = subst (Climbs v p.links c) (class_is at m r.0 r.1) (climbs (heads_into fewer) p.links c m.class.number p.leads);
            meets = r.2;
            nearest = λ k other lt up q. p.nearest k (whole_method at other) lt (climbs (heads_back fewer) k c other.class.number up) (agree.into other q);
          },
        )

    pub none_into : HasNone v Q c → HasNone w P c
    none_into none k m up p =
        let r = agree.back m (climbs_above w k c m.class.number up) p in
        none k r.0 (subst (Climbs v k c) (class_is at m r.0 r.1) (climbs (heads_into fewer) k c m.class.number up)) r.2

    pub none_back : HasNone w P c → HasNone v Q c
    none_back none k n up q = none k (whole_method at n) (climbs (heads_back fewer) k c n.class.number up) (agree.into n q)

  -- ---- among the superinterfaces

  pub superinterface_into : KeepsAlike w v at → (c : ℕ) (name : List ℕ) (desc : MethodDesc) (n : MethodId) → IsSuperinterfaceMethod v c name desc n → IsSuperinterfaceMethod w c name desc (whole_method at n)
  superinterface_into alike c name desc n q = (
    proper (heads_back fewer) c n.class.number q.0,
    (declares_into fewer alike name desc n q.1.0, inheritable_into fewer n q.1.1, interface_class (heads_back fewer) n.class.number q.1.2),
  )

  module _ (alike : KeepsAlike w v at) {c : ℕ} {name : List ℕ} {desc : MethodDesc} (keeps : KeepsAbove w v at c name desc) where
    -- an inheritable method of the name and descriptor stands in the part
    pub inherited_back : (m : MethodId) → Sub w c m.class.number → DeclaresMethod w name desc m → IsInheritable w m → (n : MethodId) × (m ≡ whole_method at n) × DeclaresMethod v name desc n × IsInheritable v n
    inherited_back m up declared inherits =
        let kept = keeps.each m up inherits (declared.shape, (declared.class, declared.of_class, declared.at_place), declared.called) in (
          kept.0,
          kept.2,
          declares_part fewer name desc kept.0 kept.1 (subst (DeclaresMethod w name desc) kept.2 declared),
          inheritable_back fewer kept.0 kept.1 (subst (IsInheritable w) kept.2 inherits),
        )

    pub superinterface_back : (m : MethodId) → IsSuperinterfaceMethod w c name desc m → (n : MethodId) × (m ≡ whole_method at n) × IsSuperinterfaceMethod v c name desc n
    superinterface_back m p =
        let r = inherited_back m (sub_from_proper w c m.class.number p.0) p.1.0 p.1.1 in
        let class = class_is at m r.0 r.1 in (
          r.0,
          r.1,
          (
            subst (ProperSub v c) class (proper (heads_into fewer) c m.class.number p.0),
            (r.2, r.3, subst (λ (x : ℕ). IsInterfaceClass v x) class (interface_class (heads_into fewer) m.class.number p.1.2)),
          ),
        )

    specific_into : (n : MethodId) → IsMaximallySpecific v c name desc n → IsMaximallySpecific w c name desc (whole_method at n)
    specific_into n q = record {
      method = superinterface_into alike c name desc n q.method;
      none_below = λ other p below.
          let o = superinterface_back other p in
          q.none_below o.0 o.2 (subst (λ (x : ℕ). ProperSub v x n.class.number) (class_is at other o.0 o.1) (proper (heads_into fewer) other.class.number n.class.number below));
    }

    specific_back : (m : MethodId) → IsMaximallySpecific w c name desc m → (n : MethodId) × (m ≡ whole_method at n) × IsMaximallySpecific v c name desc n
    specific_back m p =
        let r = superinterface_back m p.method in (
          r.0,
          r.1,
          record {
            method = r.2;
            none_below = λ other q below.
                p.none_below (whole_method at other) (superinterface_into alike c name desc other q)
                (subst (ProperSub w other.class.number) (sym (class_is at m r.0 r.1)) (proper (heads_back fewer) other.class.number r.0.class.number below));
          },
        )

    pub default_into : (n : MethodId) → IsSingleDefault v c name desc n → IsSingleDefault w c name desc (whole_method at n)
    default_into n q = record {
      specific = specific_into n q.specific;
      concrete = concrete_into fewer n q.concrete;
      only = λ other p concrete.
          let o = specific_back other p in
          let has = declared_here v name desc o.0 o.2.method.1.0 in
          o.1 ∙ ap (whole_method at) (q.only o.0 o.2 (concrete_back fewer o.0 has (subst (IsConcrete w) o.1 concrete)));
    }

    pub default_back : (m : MethodId) → IsSingleDefault w c name desc m → (n : MethodId) × (m ≡ whole_method at n) × IsSingleDefault v c name desc n
    default_back m p =
        let r = specific_back m p.specific in
        let has = declared_here v name desc r.0 r.2.method.1.0 in (
          r.0,
          r.1,
          record {
            specific = r.2;
            concrete = concrete_back fewer r.0 has (subst (IsConcrete w) r.1 p.concrete);
            only = λ other q concrete.
                one_whole fewer other r.0 (declared_here v name desc other q.method.1.0) has (p.only (whole_method at other) (specific_into other q) (concrete_into fewer other concrete) ∙ r.1);
          },
        )

    -- ---- above a class

    declares_for_into : (d : ℕ) → DeclaresFor v c name desc d → DeclaresFor w c name desc d
    declares_for_into d q = (whole_method at q.0, superinterface_into alike c name desc q.0 q.1, q.2)

    declares_for_back : (d : ℕ) → DeclaresFor w c name desc d → DeclaresFor v c name desc d
    declares_for_back d p = let r = superinterface_back p.0 p.1 in (r.0, r.2, sym (class_is at p.0 r.0 r.1) ∙ p.2)

    no_default_into : HasNoSingleDefault v c name desc → HasNoSingleDefault w c name desc
    no_default_into none m p = let r = default_back m p in none r.0 r.2

    no_default_back : HasNoSingleDefault w c name desc → HasNoSingleDefault v c name desc
    no_default_back none n q = none (whole_method at n) (default_into n q)

    pub above_into : (n : MethodId) → ResolvesAbove v c name desc n → ResolvesAbove w c name desc (whole_method at n)
    above_into n q = record { declared = declares_into fewer alike name desc n q.declared; found = pick q.found }
      where
        pick : IsSingleDefault v c name desc n ⊎ (HasNoSingleDefault v c name desc × IsFirst v (DeclaresFor v c name desc) c n.class.number)
            → IsSingleDefault w c name desc (whole_method at n) ⊎ (HasNoSingleDefault w c name desc × IsFirst w (DeclaresFor w c name desc) c n.class.number)
        pick (inl p) = inl (default_into n p)
        pick (inr (none, first)) =
            inr (no_default_into none, first_into (heads_back fewer) (heads_into fewer) declares_for_back c n.class.number first (declares_for_into n.class.number (first_holds v (DeclaresFor v c name desc) c n.class.number first)))

    pub above_back : (m : MethodId) → ResolvesAbove w c name desc m → (n : MethodId) × (m ≡ whole_method at n) × ResolvesAbove v c name desc n
    above_back m p =
        let r = superinterface_back m (above_method w c name desc m p) in
        (r.0, r.1, record { declared = r.2.1.0; found = pick r.0 r.1 (declared_here v name desc r.0 r.2.1.0) p.found })
      where
        pick : (n : MethodId) → m ≡ whole_method at n → HasMethod v n → IsSingleDefault w c name desc m ⊎ (HasNoSingleDefault w c name desc × IsFirst w (DeclaresFor w c name desc) c m.class.number)
            → IsSingleDefault v c name desc n ⊎ (HasNoSingleDefault v c name desc × IsFirst v (DeclaresFor v c name desc) c n.class.number)
        pick n e has (inl q) =
            let r = default_back m q in
            let is : r.0 ≡ n = one_whole fewer r.0 n (declared_here v name desc r.0 r.2.specific.method.1.0) has (sym r.1 ∙ e) in
            inl (subst (IsSingleDefault v c name desc) is r.2)
        pick n e has (inr (none, first)) =
            let here : IsFirst w (DeclaresFor w c name desc) c n.class.number = subst (IsFirst w (DeclaresFor w c name desc) c) (class_is at m n e) first in
            inr (no_default_back none, first_into (heads_into fewer) (heads_back fewer) declares_for_into c n.class.number here (declares_for_back n.class.number (first_holds w (DeclaresFor w c name desc) c n.class.number here)))
