-- What a call runs, in both worlds.
use Rattle.std.proofs.Common.{◌≡◌, ℕ, suc, ◌<◌, ◌⊎◌, List, length, refl, sym, ap, subst, inl, inr}
use Rattle.std.specs.Prelude.{◌↔◌, unwrap_or}
use Rattle.jv_types.specs.declared.desc.MethodDesc.{MethodDesc}
use Rattle.jv_types.specs.declared.ids.MethodId.{MethodId}
use Rattle.jv_types.specs.declared.references.MethodRef.{MethodRef}
use Rattle.jv_types.specs.declared.shapes.Shape.{Shape}
use Rattle.jv_world.specs.Worlds.{Climbs, IsNamed, object_name}
use Rattle.jv_resolve.specs.Members.{IsInterfaceClass}
use Rattle.jv_resolve.specs.References.{named_class, BeginsAt}
use Rattle.jv_resolve.specs.Selecting.{IsCandidate, IsOverrider, IsSpecial, IsSpecialCandidate, IsSuperCall, SelectsBy, SelectsFrom, SelectsInInterface, SelectsInterface, SelectsSpecial, SelectsVirtual, SpecialStart}
use Rattle.jv_resolve.proofs.Hierarchy.{named_here, super_here}
use Rattle.jv_two_worlds.specs.Renumbering.{StandsIn, method_to}
use Rattle.jv_two_worlds.proofs.Classes.{named_into, named_only, interface_into, interface_back}
use Rattle.jv_two_worlds.proofs.Supertypes.{climbs_into, climbs_exact, superclass_into, superclass_back}
use Rattle.jv_two_worlds.proofs.Members.{method_in, method_at, one_member, declares_into, declares_back, declares_here, inheritable_into, inheritable_back, method_into, method_back}
use Rattle.jv_two_worlds.proofs.Finding.{AlikeAt, FindAlike, none_alike, either, guarded, with_alike}
use Rattle.jv_two_worlds.proofs.Inheriting.{concrete_alike, nearest_alike, no_nearest_alike, default_alike}
use Rattle.jv_two_worlds.proofs.Overriding.{overrides_into, overrides_exact}
use Rattle.jv_two_worlds.proofs.Resolving.{begins_named, object_alike}

-- what holds of a name and a descriptor holds of their equals
at_other : (P : List ℕ → MethodDesc → Type 0) {name other : List ℕ} {desc of : MethodDesc} → name ≡ other → desc ≡ of → P name desc → P other of
at_other P {other} {desc} e k p = subst (P other) k (subst (λ (n : List ℕ). P n desc) e p)

-- where the search of invokespecial starts is a class
start_here : (w : List Shape) (from : ℕ) (r : MethodRef) (name : List ℕ) (start : ℕ) → SpecialStart w from r name start → start < length w
start_here w from r name start (inl p) = super_here w from start (inl p.1)
start_here w from r name start (inr p) = named_here w start (unwrap_or (named_class r.class) object_name) p.1

module _ {w v : List Shape} {to : ℕ → ℕ} (inside : StandsIn w v to) where
  candidate_alike : (name : List ℕ) (desc : MethodDesc) → AlikeAt w to (IsCandidate w name desc) (IsCandidate v name desc)
  candidate_alike name desc = record {
    into = λ m here p. (declares_into inside name desc m p.0, inheritable_into inside m p.1);
    back = λ m here q. (declares_back inside name desc m here q.0, inheritable_back inside m here q.1);
  }

  overrider_alike : (resolved : MethodId) (name : List ℕ) (desc : MethodDesc) → resolved.class.number < length w
      → AlikeAt w to (IsOverrider w resolved name desc) (IsOverrider v (method_to to resolved) name desc)
  overrider_alike resolved name desc there = record {
    into = λ m here p. (declares_into inside name desc m p.0, inheritable_into inside m p.1, overrides_into inside m resolved p.2);
    back = λ m here q. (declares_back inside name desc m here q.0, inheritable_back inside m here q.1, overrides_exact inside m resolved here there q.2);
  }

  by_alike : {P Q : MethodId → Type 0} → AlikeAt w to P Q → (c : ℕ) (name : List ℕ) (desc : MethodDesc) → c < length w → FindAlike w to (SelectsBy w P c name desc) (SelectsBy v Q (to c) name desc)
  by_alike {P} {Q} alike c name desc here =
      with_alike (either (nearest_alike inside P Q alike c here) (guarded (no_nearest_alike inside P Q alike c here) (default_alike inside c name desc here))) (concrete_alike inside)

  -- ---- invokevirtual and invokeinterface

  virtual_by : (resolved : MethodId) → resolved.class.number < length w → (c : ℕ) (name : List ℕ) (desc : MethodDesc) → c < length w
      → FindAlike w to (SelectsBy w (IsOverrider w resolved name desc) c name desc) (SelectsBy v (IsOverrider v (method_to to resolved) name desc) (to c) name desc)
  virtual_by resolved there c name desc here = by_alike (overrider_alike resolved name desc there) c name desc here

  pub virtual_alike : (c : ℕ) (resolved : MethodId) → c < length w → resolved.class.number < length w
      → FindAlike w to (SelectsVirtual w c resolved) (SelectsVirtual v (to c) (method_to to resolved))
  virtual_alike c resolved here there =
      let Runs : MethodId → List ℕ → MethodDesc → Type 0 = λ n name desc. SelectsBy v (IsOverrider v (method_to to resolved) name desc) (to c) name desc n in record {
        here = λ m p. (virtual_by resolved there c p.shape.name p.shape.desc here).here m p.selects;
        into = λ m p.
            let y = method_into inside resolved p.shape p.place in
            record { shape = y.0; place = y.1; selects = at_other (Runs (method_to to m)) y.2.name y.2.desc ((virtual_by resolved there c p.shape.name p.shape.desc here).into m p.selects) };
        back = λ n q.
            let x = method_back inside resolved q.shape there q.place in
            let r = (virtual_by resolved there c x.0.name x.0.desc here).back n (at_other (Runs n) (sym x.2.name) (sym x.2.desc) q.selects) in
            (r.0, r.1, record { shape = x.0; place = x.1; selects = r.2 });
      }

  pub interface_alike : (c : ℕ) (resolved : MethodId) → c < length w → resolved.class.number < length w
      → FindAlike w to (SelectsInterface w c resolved) (SelectsInterface v (to c) (method_to to resolved))
  interface_alike c resolved here there =
      let Runs : MethodId → List ℕ → MethodDesc → Type 0 = λ n name desc. SelectsBy v (IsCandidate v name desc) (to c) name desc n in record {
        here = λ m p. (by_alike (candidate_alike p.shape.name p.shape.desc) c p.shape.name p.shape.desc here).here m p.selects;
        into = λ m p.
            let y = method_into inside resolved p.shape p.place in
            let found = (by_alike (candidate_alike p.shape.name p.shape.desc) c p.shape.name p.shape.desc here).into m p.selects in
            record { shape = y.0; place = y.1; selects = at_other (Runs (method_to to m)) y.2.name y.2.desc found };
        back = λ n q.
            let x = method_back inside resolved q.shape there q.place in
            let r = (by_alike (candidate_alike x.0.name x.0.desc) c x.0.name x.0.desc here).back n (at_other (Runs n) (sym x.2.name) (sym x.2.desc) q.selects) in
            (r.0, r.1, record { shape = x.0; place = x.1; selects = r.2 });
      }

  -- ---- where invokespecial starts

  super_call : (from k : ℕ) (r : MethodRef) (name : List ℕ) → from < length w → BeginsAt w r.class k → IsSuperCall w from r name ↔ IsSuperCall v (to from) r name
  super_call from k r name here begins = (
    λ p. (p.0, p.1, to p.2, p.3, named_into inside p.2 p.1 p.4, (p.5.0, climbs_into inside (suc p.5.0) from p.2 p.5.1)),
    λ q.
        let named : IsNamed w k q.1 = begins_named w r.class k q.1 begins q.3 in
        let climbs : Climbs v (suc q.5.0) (to from) (to k) = subst (Climbs v (suc q.5.0) (to from)) (named_only inside k q.2 q.1 named q.4) q.5.1 in
        (q.0, q.1, k, q.3, named, (q.5.0, climbs_exact inside (suc q.5.0) from k here (named_here w k q.1 named) climbs)),
  )

  start_into : (from k : ℕ) (r : MethodRef) (name : List ℕ) → from < length w → BeginsAt w r.class k → (start : ℕ) → SpecialStart w from r name start → SpecialStart v (to from) r name (to start)
  start_into from k r name here begins start (inl p) = inl ((super_call from k r name here begins).0 p.0, superclass_into inside from start p.1)
  start_into from k r name here begins start (inr p) =
      inr ((λ call. p.0 ((super_call from k r name here begins).1 call)), named_into inside start (unwrap_or (named_class r.class) object_name) p.1)

  start_back : (from k : ℕ) (r : MethodRef) (name : List ℕ) → from < length w → BeginsAt w r.class k → (e : ℕ) → SpecialStart v (to from) r name e
      → (start : ℕ) × (e ≡ to start) × SpecialStart w from r name start
  start_back from k r name here begins e (inl q) =
      let above = superclass_back inside from e here q.1 in
      (above.0, above.1, inl ((super_call from k r name here begins).1 q.0, above.2))
  start_back from k r name here begins e (inr q) =
      (k, named_only inside k e (unwrap_or (named_class r.class) object_name) begins q.1, inr ((λ call. q.0 ((super_call from k r name here begins).0 call)), begins))

  -- ---- what invokespecial finds

  module _ (resolved : MethodId) (there : resolved.class.number < length w) where
    special_into : (m : MethodId) → IsSpecial w resolved m → IsSpecial v (method_to to resolved) (method_to to m)
    special_into m p = let y = method_into inside m p.0 p.1 in (y.0, y.1, (λ k. p.2 (y.2.access.static.1 k)), pick (λ n k. n (y.2.access.private.1 k)) p.3)
      where
        pick : {A B : Type 0} → (A → B) → A ⊎ (m ≡ resolved) → B ⊎ (method_to to m ≡ method_to to resolved)
        pick f (inl a) = inl (f a)
        pick f (inr e) = inr (ap (method_to to) e)

    special_back : (m : MethodId) → m.class.number < length w → IsSpecial v (method_to to resolved) (method_to to m) → IsSpecial w resolved m
    special_back m here q = let x = method_back inside m q.0 here q.1 in (x.0, x.1, (λ k. q.2 (x.2.access.static.0 k)), pick (λ n k. n (x.2.access.private.0 k)) q.3)
      where
        pick : {A B : Type 0} → (A → B) → A ⊎ (method_to to m ≡ method_to to resolved) → B ⊎ (m ≡ resolved)
        pick f (inl a) = inl (f a)
        pick f (inr e) = inr (one_member inside m resolved here there e)

    special_candidate_alike : (name : List ℕ) (desc : MethodDesc) → AlikeAt w to (IsSpecialCandidate w resolved name desc) (IsSpecialCandidate v (method_to to resolved) name desc)
    special_candidate_alike name desc = record {
      into = λ m here p. (declares_into inside name desc m p.0, special_into m p.1);
      back = λ m here q. (declares_back inside name desc m here q.0, special_back m here q.1);
    }

    own_alike : (name : List ℕ) (desc : MethodDesc) (start : ℕ) → start < length w
        → FindAlike w to (λ m. IsSpecialCandidate w resolved name desc m × (m.class.number ≡ start)) (λ n. IsSpecialCandidate v (method_to to resolved) name desc n × (n.class.number ≡ to start))
    own_alike name desc start here =
        let alike = special_candidate_alike name desc in record {
          here = λ m p. declares_here w name desc m p.0.0;
          into = λ m p. (alike.into m (declares_here w name desc m p.0.0) p.0, ap to p.1);
          back = λ n q.
              let m = method_in n start in
              let is : n ≡ method_to to m = method_at to n start q.1 in
              (m, is, (alike.back m here (subst (IsSpecialCandidate v (method_to to resolved) name desc) is q.0), refl));
        }

    no_own_alike : (name : List ℕ) (desc : MethodDesc) (start : ℕ) → start < length w
        → ((m : MethodId) → m.class.number ≡ start → IsSpecialCandidate w resolved name desc m → ⊥)
        ↔ ((n : MethodId) → n.class.number ≡ to start → IsSpecialCandidate v (method_to to resolved) name desc n → ⊥)
    no_own_alike name desc start here =
        let none = none_alike (own_alike name desc start here) in (
          λ p n e q. none.0 (λ m k. p m k.1 k.0) n (q, e),
          λ q m e p. none.1 (λ n k. q n k.1 k.0) m (p, e),
        )

    in_interface_alike : (name : List ℕ) (desc : MethodDesc) (start : ℕ) → start < length w
        → FindAlike w to (SelectsInInterface w resolved name desc start) (SelectsInInterface v (method_to to resolved) name desc (to start))
    in_interface_alike name desc start here =
        let object = object_alike inside start name desc here in
        let above = either object (guarded (none_alike object) (default_alike inside start name desc here)) in
        with_alike (either (own_alike name desc start here) (guarded (no_own_alike name desc start here) above)) (concrete_alike inside)

    from_alike : (name : List ℕ) (desc : MethodDesc) (start : ℕ) → start < length w
        → FindAlike w to (SelectsFrom w resolved name desc start) (SelectsFrom v (method_to to resolved) name desc (to start))
    from_alike name desc start here =
        let kind : IsInterfaceClass w start ↔ IsInterfaceClass v (to start) = (λ p. interface_into inside start p, λ q. interface_back inside start here q) in
        let other : (IsInterfaceClass w start → ⊥) ↔ (IsInterfaceClass v (to start) → ⊥) = (λ p q. p (kind.1 q), λ q p. q (kind.0 p)) in
        either
        (guarded other (by_alike (special_candidate_alike name desc) start name desc here))
        (guarded kind (in_interface_alike name desc start here))

    pub special_alike : (from k : ℕ) (r : MethodRef) → from < length w → BeginsAt w r.class k
        → FindAlike w to (SelectsSpecial w from r resolved) (SelectsSpecial v (to from) r (method_to to resolved))
    special_alike from k r here begins =
        let Runs : ℕ → MethodId → List ℕ → MethodDesc → Type 0 = λ start n name desc. SelectsFrom v (method_to to resolved) name desc start n in record {
          here = λ m p. (from_alike p.shape.name p.shape.desc p.start (start_here w from r p.shape.name p.start p.starts)).here m p.selects;
          into = λ m p.
              let y = method_into inside resolved p.shape p.place in
              let found = (from_alike p.shape.name p.shape.desc p.start (start_here w from r p.shape.name p.start p.starts)).into m p.selects in record {
                shape = y.0;
                place = y.1;
                start = to p.start;
                starts = subst (λ (name : List ℕ). SpecialStart v (to from) r name (to p.start)) y.2.name (start_into from k r p.shape.name here begins p.start p.starts);
                selects = at_other (Runs (to p.start) (method_to to m)) y.2.name y.2.desc found;
              };
          back = λ n q.
              let x = method_back inside resolved q.shape there q.place in
              let starts = subst (λ (name : List ℕ). SpecialStart v (to from) r name q.start) (sym x.2.name) q.starts in
              let s = start_back from k r x.0.name here begins q.start starts in
              let selects = at_other (Runs q.start n) (sym x.2.name) (sym x.2.desc) q.selects in
              let found = (from_alike x.0.name x.0.desc s.0 (start_here w from r x.0.name s.0 s.2)).back n (subst (λ (e : ℕ). Runs e n x.0.name x.0.desc) s.1 selects) in
              (found.0, found.1, record { shape = x.0; place = x.1; start = s.0; starts = s.2; selects = found.2 });
        }
