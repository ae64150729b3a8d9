-- Searches along superclasses and among superinterfaces, in both worlds.
use Rattle.std.proofs.Common.{◌≡◌, ℕ, ◌<◌, List, length, sym, ap, ◌∙◌, subst}
use Rattle.std.specs.Prelude.{◌↔◌}
use Rattle.jv_types.specs.declared.desc.MethodDesc.{MethodDesc}
use Rattle.jv_types.specs.declared.ids.MethodId.{MethodId}
use Rattle.jv_types.specs.declared.shapes.Shape.{Shape}
use Rattle.jv_world.specs.Worlds.{ProperSub}
use Rattle.jv_resolve.specs.Members.{DeclaresMethod, IsConcrete}
use Rattle.jv_resolve.specs.Inheriting.{HasNone, IsInterfaceMethod, IsMaximallySpecific, IsNearest, IsSingleDefault, IsSuperinterfaceMethod}
use Rattle.jv_resolve.proofs.Hierarchy.{proper_here}
use Rattle.jv_two_worlds.specs.Renumbering.{StandsIn, method_to}
use Rattle.jv_two_worlds.proofs.Classes.{interface_into, interface_back}
use Rattle.jv_two_worlds.proofs.Supertypes.{climbs_here, climbs_into, climbs_back, proper_into, proper_back, proper_exact}
use Rattle.jv_two_worlds.proofs.Members.{method_in, method_at, one_member, declares_into, declares_back, inheritable_into, inheritable_back, concrete_into, concrete_back}
use Rattle.jv_two_worlds.proofs.Finding.{AlikeAt, FindAlike}

module _ {w v : List Shape} {to : ℕ → ℕ} (inside : StandsIn w v to) where
  -- ---- along superclasses

  pub declares_alike : (name : List ℕ) (desc : MethodDesc) → AlikeAt w to (DeclaresMethod w name desc) (DeclaresMethod v name desc)
  declares_alike name desc = record { into = λ m here p. declares_into inside name desc m p; back = λ m here p. declares_back inside name desc m here p }

  pub concrete_alike : AlikeAt w to (IsConcrete w) (IsConcrete v)
  concrete_alike = record { into = λ m here p. concrete_into inside m p; back = λ m here p. concrete_back inside m here p }

  nearest_into : (P Q : MethodId → Type 0) → AlikeAt w to P Q → (c : ℕ) → c < length w → (m : MethodId) → IsNearest w P c m → IsNearest v Q (to c) (method_to to m)
  nearest_into P Q alike c here m p = record {
    links = p.links;
    leads = climbs_into inside p.links c m.class.number p.leads;
    meets = alike.into m (climbs_here w p.links c m.class.number here p.leads) p.meets;
    nearest = λ n other lt climbs q.
        let r = climbs_back inside n c other.class.number here climbs in
        let own : Q (method_to to (method_in other r.0)) = subst Q (method_at to other r.0 r.1) q in
        p.nearest n (method_in other r.0) lt r.2 (alike.back (method_in other r.0) (climbs_here w n c r.0 here r.2) own);
  }

  nearest_back : (P Q : MethodId → Type 0) → AlikeAt w to P Q → (c : ℕ) → c < length w → (n : MethodId) → IsNearest v Q (to c) n → (m : MethodId) × (n ≡ method_to to m) × IsNearest w P c m
  nearest_back P Q alike c here n p =
      let r = climbs_back inside p.links c n.class.number here p.leads in
      let m = method_in n r.0 in
      let is : n ≡ method_to to m = method_at to n r.0 r.1 in (
        m,
        is,
        record {
          links = p.links;
          leads = r.2;
          meets = alike.back m (climbs_here w p.links c r.0 here r.2) (subst Q is p.meets);
          nearest = λ k other lt climbs holds.
              p.nearest k (method_to to other) lt (climbs_into inside k c other.class.number climbs) (alike.into other (climbs_here w k c other.class.number here climbs) holds);
        },
      )

  pub nearest_alike : (P Q : MethodId → Type 0) → AlikeAt w to P Q → (c : ℕ) → c < length w → FindAlike w to (IsNearest w P c) (IsNearest v Q (to c))
  nearest_alike P Q alike c here = record {
    here = λ m p. climbs_here w p.links c m.class.number here p.leads;
    into = λ m p. nearest_into P Q alike c here m p;
    back = λ n q. nearest_back P Q alike c here n q;
  }

  pub no_nearest_alike : (P Q : MethodId → Type 0) → AlikeAt w to P Q → (c : ℕ) → c < length w → HasNone w P c ↔ HasNone v Q (to c)
  no_nearest_alike P Q alike c here = (
    λ none n other climbs q.
        let r = climbs_back inside n c other.class.number here climbs in
        let own : Q (method_to to (method_in other r.0)) = subst Q (method_at to other r.0 r.1) q in
        none n (method_in other r.0) r.2 (alike.back (method_in other r.0) (climbs_here w n c r.0 here r.2) own),
    λ none n m climbs p. none n (method_to to m) (climbs_into inside n c m.class.number climbs) (alike.into m (climbs_here w n c m.class.number here climbs) p),
  )

  -- ---- among superinterfaces

  interface_method_into : (name : List ℕ) (desc : MethodDesc) (m : MethodId) → IsInterfaceMethod w name desc m → IsInterfaceMethod v name desc (method_to to m)
  interface_method_into name desc m p = (declares_into inside name desc m p.0, inheritable_into inside m p.1, interface_into inside m.class.number p.2)

  interface_method_back : (name : List ℕ) (desc : MethodDesc) (m : MethodId) → m.class.number < length w → IsInterfaceMethod v name desc (method_to to m) → IsInterfaceMethod w name desc m
  interface_method_back name desc m here p = (declares_back inside name desc m here p.0, inheritable_back inside m here p.1, interface_back inside m.class.number here p.2)

  superinterface_back : (c : ℕ) (name : List ℕ) (desc : MethodDesc) → c < length w → (n : MethodId) → IsSuperinterfaceMethod v (to c) name desc n
      → (m : MethodId) × (n ≡ method_to to m) × IsSuperinterfaceMethod w c name desc m
  superinterface_back c name desc here n p =
      let r = proper_back inside c n.class.number here p.0 in
      let m = method_in n r.0 in
      let is : n ≡ method_to to m = method_at to n r.0 r.1 in
      (m, is, (r.2, interface_method_back name desc m (proper_here w c r.0 r.2) (subst (IsInterfaceMethod v name desc) is p.1)))

  pub superinterface_alike : (c : ℕ) (name : List ℕ) (desc : MethodDesc) → c < length w → FindAlike w to (IsSuperinterfaceMethod w c name desc) (IsSuperinterfaceMethod v (to c) name desc)
  superinterface_alike c name desc here = record {
    here = λ m p. proper_here w c m.class.number p.0;
    into = λ m p. (proper_into inside c m.class.number p.0, interface_method_into name desc m p.1);
    back = λ n q. superinterface_back c name desc here n q;
  }

  specific_into : (c : ℕ) (name : List ℕ) (desc : MethodDesc) → c < length w → (m : MethodId) → IsMaximallySpecific w c name desc m → IsMaximallySpecific v (to c) name desc (method_to to m)
  specific_into c name desc here m p =
      let alike = superinterface_alike c name desc here in record {
        method = alike.into m p.method;
        none_below = λ other q below.
            let o = alike.back other q in
            let own : ProperSub v (to o.0.class.number) (to m.class.number) = subst (λ (x : MethodId). ProperSub v x.class.number (to m.class.number)) o.1 below in
            p.none_below o.0 o.2 (proper_exact inside o.0.class.number m.class.number (alike.here o.0 o.2) (alike.here m p.method) own);
      }

  specific_back : (c : ℕ) (name : List ℕ) (desc : MethodDesc) → c < length w → (n : MethodId) → IsMaximallySpecific v (to c) name desc n
      → (m : MethodId) × (n ≡ method_to to m) × IsMaximallySpecific w c name desc m
  specific_back c name desc here n p =
      let alike = superinterface_alike c name desc here in
      let r = alike.back n p.method in (
        r.0,
        r.1,
        record {
          method = r.2;
          none_below = λ other q below.
              p.none_below (method_to to other) (alike.into other q)
              (subst (λ (x : MethodId). ProperSub v (to other.class.number) x.class.number) (sym r.1) (proper_into inside other.class.number r.0.class.number below));
        },
      )

  specific_alike : (c : ℕ) (name : List ℕ) (desc : MethodDesc) → c < length w → FindAlike w to (IsMaximallySpecific w c name desc) (IsMaximallySpecific v (to c) name desc)
  specific_alike c name desc here = record {
    here = λ m p. proper_here w c m.class.number p.method.0;
    into = λ m p. specific_into c name desc here m p;
    back = λ n q. specific_back c name desc here n q;
  }

  default_into : (c : ℕ) (name : List ℕ) (desc : MethodDesc) → c < length w → (m : MethodId) → IsSingleDefault w c name desc m → IsSingleDefault v (to c) name desc (method_to to m)
  default_into c name desc here m p =
      let alike = specific_alike c name desc here in record {
        specific = alike.into m p.specific;
        concrete = concrete_into inside m p.concrete;
        only = λ other q concrete.
            let o = alike.back other q in
            o.1 ∙ ap (method_to to) (p.only o.0 o.2 (concrete_back inside o.0 (alike.here o.0 o.2) (subst (IsConcrete v) o.1 concrete)));
      }

  default_back : (c : ℕ) (name : List ℕ) (desc : MethodDesc) → c < length w → (n : MethodId) → IsSingleDefault v (to c) name desc n
      → (m : MethodId) × (n ≡ method_to to m) × IsSingleDefault w c name desc m
  default_back c name desc here n p =
      let alike = specific_alike c name desc here in
      let r = alike.back n p.specific in
      let own = alike.here r.0 r.2 in (
        r.0,
        r.1,
        record {
          specific = r.2;
          concrete = concrete_back inside r.0 own (subst (IsConcrete v) r.1 p.concrete);
          only = λ other q concrete.
              one_member inside other r.0 (alike.here other q) own (p.only (method_to to other) (alike.into other q) (concrete_into inside other concrete) ∙ r.1);
        },
      )

  pub default_alike : (c : ℕ) (name : List ℕ) (desc : MethodDesc) → c < length w → FindAlike w to (IsSingleDefault w c name desc) (IsSingleDefault v (to c) name desc)
  default_alike c name desc here = record {
    here = λ m p. proper_here w c m.class.number p.specific.method.0;
    into = λ m p. default_into c name desc here m p;
    back = λ n q. default_back c name desc here n q;
  }
