-- What a call runs, in the whole world and in the part.
use Rattle.std.proofs.Common.{◌≡◌, ℕ, ◌⊎◌, List, refl, sym, ap, ◌∙◌, subst, inl, inr}
use Rattle.jv_types.specs.declared.desc.MethodDesc.{MethodDesc}
use Rattle.jv_types.specs.declared.ids.MethodId.{MethodId}
use Rattle.jv_types.specs.declared.shapes.MethodShape.{MethodShape}
use Rattle.jv_types.specs.declared.shapes.Shape.{Shape}
use Rattle.jv_world.specs.Worlds.{Sub}
use Rattle.jv_resolve.specs.Inheriting.{HasNone, IsNearest, IsSingleDefault}
use Rattle.jv_resolve.specs.Members.{HasMethod, IsConcrete, IsMethod}
use Rattle.jv_resolve.specs.Overriding.{Overrides}
use Rattle.jv_resolve.specs.Selecting.{IsCandidate, IsOverrider, SelectsBy, SelectsInterface, SelectsVirtual}
use Rattle.jv_resolve.proofs.MembersLemmas.{declared_here, one_method}
use Rattle.jv_two_worlds.specs.Agreeing.{Agree}
use Rattle.jv_fewer_members.specs.Keeping.{IsCalled, IsSelectable, KeepsMembers}
use Rattle.jv_fewer_members.specs.Parts.{HasFewerMembers, Places, whole_method}
use Rattle.jv_fewer_members.proofs.KeptMembers.{concrete_into, concrete_back, declares_into, inheritable_into, method_part, method_whole, instance_into}
use Rattle.jv_fewer_members.proofs.Overriders.{overrides_into, overrides_back}
use Rattle.jv_fewer_members.proofs.Searches.{AgreeAbove, class_is, default_into, default_back, inherited_back, nearest_into, nearest_back, none_into, none_back}
use Rattle.jv_fewer_members.proofs.Together.{KeepsAbove, keeps_above}

-- what holds of a name and a descriptor holds of their equals
pub at_other : (P : List ℕ → MethodDesc → Type 0) {name other : List ℕ} {desc of : MethodDesc} → name ≡ other → desc ≡ of → P name desc → P other of
at_other P {other} {desc} e k p = subst (P other) k (subst (λ (n : List ℕ). P n desc) e p)

module _ {w v : List Shape} {at : Places} (fewer : HasFewerMembers w v at) (keeps : KeepsMembers w v at) where
  -- ---- from a class upwards

  module _ {c : ℕ} {name : List ℕ} {desc : MethodDesc} (above : KeepsAbove w v at c name desc) where
    candidate_agrees : AgreeAbove w v at c (IsCandidate v name desc) (IsCandidate w name desc)
    candidate_agrees = record {
      here = λ n q. declared_here v name desc n q.0;
      into = λ n q. (declares_into fewer keeps.alike name desc n q.0, inheritable_into fewer n q.1);
      back = λ m up p. let r = inherited_back fewer keeps.alike above m up p.0 p.1 in (r.0, r.1, (r.2, r.3));
    }

    overrider_agrees : (resolved : MethodId) → HasMethod v resolved → IsCalled w (whole_method at resolved) name desc
        → AgreeAbove w v at c (IsOverrider v resolved name desc) (IsOverrider w (whole_method at resolved) name desc)
    overrider_agrees resolved has called = record {
      here = λ n q. declared_here v name desc n q.0;
      into = λ n q. (declares_into fewer keeps.alike name desc n q.0, inheritable_into fewer n q.1, overrides_into fewer n resolved q.2);
      back = λ m up p.
          let r = inherited_back fewer keeps.alike above m up p.0 p.1 in
          let own : Overrides w (whole_method at r.0) (whole_method at resolved) = subst (λ (x : MethodId). Overrides w x (whole_method at resolved)) r.1 p.2 in
          (r.0, r.1, (r.2, r.3, overrides_back fewer above r.0 resolved (declared_here v name desc r.0 r.2) has (subst (Sub w c) (class_is at m r.0 r.1) up) called own));
    }

    module _ {Q P : MethodId → Type 0} (agree : AgreeAbove w v at c Q P) where
      by_into : (n : MethodId) → SelectsBy v Q c name desc n → SelectsBy w P c name desc (whole_method at n)
      by_into n q = (pick q.0, concrete_into fewer n q.1)
        where
          pick : IsNearest v Q c n ⊎ (HasNone v Q c × IsSingleDefault v c name desc n) → IsNearest w P c (whole_method at n) ⊎ (HasNone w P c × IsSingleDefault w c name desc (whole_method at n))
          pick (inl p) = inl (nearest_into fewer agree n p)
          pick (inr (none, p)) = inr (none_into fewer agree none, default_into fewer keeps.alike above n p)

      by_back : (m : MethodId) → SelectsBy w P c name desc m → (n : MethodId) × (m ≡ whole_method at n) × SelectsBy v Q c name desc n
      by_back m p = pick p.0
        where
          pick : IsNearest w P c m ⊎ (HasNone w P c × IsSingleDefault w c name desc m) → (n : MethodId) × (m ≡ whole_method at n) × SelectsBy v Q c name desc n
          pick (inl q) =
              let r = nearest_back fewer agree m q in
              (r.0, r.1, (inl r.2, concrete_back fewer r.0 (agree.here r.0 r.2.meets) (subst (IsConcrete w) r.1 p.1)))
          pick (inr (none, q)) =
              let r = default_back fewer keeps.alike above m q in
              (r.0, r.1, (inr (none_back fewer agree none, r.2), concrete_back fewer r.0 (declared_here v name desc r.0 r.2.specific.method.1.0) (subst (IsConcrete w) r.1 p.1)))

      pub by_agrees : Agree (whole_method at) (SelectsBy v Q c name desc) (SelectsBy w P c name desc)
      by_agrees = record { into = λ n q. by_into n q; back = λ m p. by_back m p }

  -- ---- invokevirtual and invokeinterface

  -- what a method that calls select by has above a class is kept
  pub selected_above : (c : ℕ) (resolved : MethodId) (x : MethodShape) → IsSelectable v resolved → IsMethod v resolved x → Sub w c resolved.class.number → KeepsAbove w v at c x.name x.desc
  selected_above c resolved x is place up =
      let own : is.2.0 ≡ x = one_method v resolved is.2.0 x is.2.1 place in
      let name : is.0 ≡ x.name = sym is.2.2.0 ∙ ap (λ (y : MethodShape). y.name) own in
      let desc : is.1 ≡ x.desc = sym is.2.2.1 ∙ ap (λ (y : MethodShape). y.desc) own in
      at_other (λ n d. KeepsAbove w v at c n d) name desc
      (keeps_above keeps c (whole_method at resolved) is.0 is.1 up (resolved, (is.2.0, is.2.1), refl) (instance_into fewer resolved is.0 is.1 is.2) is.3 is.4)

  called_whole : (resolved : MethodId) (x : MethodShape) → IsMethod v resolved x → IsCalled w (whole_method at resolved) x.name x.desc
  called_whole resolved x place = let y = method_whole fewer resolved x place in (y.0, y.1, (y.2.name, y.2.desc))

  virtual_by : (c : ℕ) (resolved : MethodId) (x : MethodShape) → IsSelectable v resolved → IsMethod v resolved x → Sub w c resolved.class.number
      → Agree (whole_method at) (SelectsBy v (IsOverrider v resolved x.name x.desc) c x.name x.desc) (SelectsBy w (IsOverrider w (whole_method at resolved) x.name x.desc) c x.name x.desc)
  virtual_by c resolved x is place up =
      let above = selected_above c resolved x is place up in
      by_agrees above (overrider_agrees above resolved (x, place) (called_whole resolved x place))

  pub virtual_agrees : (c : ℕ) (resolved : MethodId) → IsSelectable v resolved → Sub w c resolved.class.number
      → Agree (whole_method at) (SelectsVirtual v c resolved) (SelectsVirtual w c (whole_method at resolved))
  virtual_agrees c resolved is up =
      let Runs : MethodId → List ℕ → MethodDesc → Type 0 = λ m name desc. SelectsBy w (IsOverrider w (whole_method at resolved) name desc) c name desc m in record {
        into = λ n q.
            let y = method_whole fewer resolved q.shape q.place in
            let found = (virtual_by c resolved q.shape is q.place up).into n q.selects in
            record { shape = y.0; place = y.1; selects = at_other (Runs (whole_method at n)) (sym y.2.name) (sym y.2.desc) found };
        back = λ m p.
            let x = method_part fewer resolved p.shape (is.2.0, is.2.1) p.place in
            let r = (virtual_by c resolved x.0 is x.1 up).back m (at_other (Runs m) x.2.name x.2.desc p.selects) in
            (r.0, r.1, record { shape = x.0; place = x.1; selects = r.2 });
      }

  interface_by : (c : ℕ) (resolved : MethodId) (x : MethodShape) → IsSelectable v resolved → IsMethod v resolved x → Sub w c resolved.class.number
      → Agree (whole_method at) (SelectsBy v (IsCandidate v x.name x.desc) c x.name x.desc) (SelectsBy w (IsCandidate w x.name x.desc) c x.name x.desc)
  interface_by c resolved x is place up = let above = selected_above c resolved x is place up in by_agrees above (candidate_agrees above)

  pub interface_agrees : (c : ℕ) (resolved : MethodId) → IsSelectable v resolved → Sub w c resolved.class.number
      → Agree (whole_method at) (SelectsInterface v c resolved) (SelectsInterface w c (whole_method at resolved))
  interface_agrees c resolved is up =
      let Runs : MethodId → List ℕ → MethodDesc → Type 0 = λ m name desc. SelectsBy w (IsCandidate w name desc) c name desc m in record {
        into = λ n q.
            let y = method_whole fewer resolved q.shape q.place in
            let found = (interface_by c resolved q.shape is q.place up).into n q.selects in
            record { shape = y.0; place = y.1; selects = at_other (Runs (whole_method at n)) (sym y.2.name) (sym y.2.desc) found };
        back = λ m p.
            let x = method_part fewer resolved p.shape (is.2.0, is.2.1) p.place in
            let r = (interface_by c resolved x.0 is x.1 up).back m (at_other (Runs m) x.2.name x.2.desc p.selects) in
            (r.0, r.1, record { shape = x.0; place = x.1; selects = r.2 });
      }
