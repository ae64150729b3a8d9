-- Resolution in both worlds.
use Rattle.std.proofs.Common.{◌≡◌, ℕ, ◌<◌, List, Option, Some, length, refl, sym, ap, ◌∙◌, subst}
use Rattle.std.specs.Prelude.{◌↔◌, unwrap_or}
use Rattle.jv_types.specs.declared.desc.Desc.{Desc}
use Rattle.jv_types.specs.declared.desc.MethodDesc.{MethodDesc}
use Rattle.jv_types.specs.declared.desc.RefType.{RefType}
use Rattle.jv_types.specs.declared.ids.FieldId.{FieldId}
use Rattle.jv_types.specs.declared.ids.MethodId.{MethodId}
use Rattle.jv_types.specs.declared.references.FieldRef.{FieldRef}
use Rattle.jv_types.specs.declared.references.MethodRef.{MethodRef}
use Rattle.jv_types.specs.declared.shapes.Shape.{Shape}
use Rattle.jv_world.specs.Worlds.{IsNamed, object_name}
use Rattle.jv_resolve.specs.declared.refusal.ResolveRefusal.{ResolveRefusal}
use Rattle.jv_resolve.specs.declared.refusal.ResolveRefusal.TheVariants.{WrongKind, NotFound, NoAccess, Memory}
use Rattle.jv_resolve.specs.Members.{DeclaresField, DeclaresMethod, IsInterfaceClass}
use Rattle.jv_resolve.specs.DepthFirst.{IsFirst}
use Rattle.jv_resolve.specs.References.{named_class, BeginsAt, IsInterfaceType}
use Rattle.jv_resolve.specs.Refusals.{IsFieldUnresolved, IsInterfaceMethodUnresolved, IsMethodUnresolved}
use Rattle.jv_resolve.specs.Resolving.{DeclaresFieldIn, DeclaresFor, DeclaresIn, IsInitKept, IsObjectMethod, IsPublicInstance, ResolvesAbove, ResolvesField, ResolvesInClass, ResolvesInInterface, ResolvesInterfaceMethod, ResolvesMethod}
use Rattle.jv_resolve.proofs.Hierarchy.{named_here}
use Rattle.jv_two_worlds.specs.Agreeing.{Agree}
use Rattle.jv_two_worlds.specs.Renumbering.{StandsIn, field_to, method_to}
use Rattle.jv_two_worlds.proofs.Classes.{named_into, named_back, named_only, one_number, interface_into, interface_back, object_there}
use Rattle.jv_two_worlds.proofs.Members.{method_in, method_at, field_in, field_at, declares_here, declares_into, declares_back, declares_field_into, declares_field_back, public_into, public_back}
use Rattle.jv_two_worlds.proofs.Finding.{AlikeAt, FindAlike, none_agree, none_alike, either, guarded, with_alike}
use Rattle.jv_two_worlds.proofs.Inheriting.{declares_alike, nearest_alike, no_nearest_alike, superinterface_alike, default_alike}
use Rattle.jv_two_worlds.proofs.DepthFirst.{ClassesAlike, first_here, first_into, first_back}

-- the name that a type has is that of the class at which its search begins
pub begins_named : (w : List Shape) (type : RefType) (c : ℕ) (name : List ℕ) → BeginsAt w type c → named_class type ≡ Some name → IsNamed w c name
begins_named w type c name begins e = subst (λ (o : Option (List ℕ)). IsNamed w c (unwrap_or o object_name)) e begins

module _ {w v : List Shape} {to : ℕ → ℕ} (inside : StandsIn w v to) where
  -- ---- fields

  declaring_alike : (name : List ℕ) (desc : Desc) → ClassesAlike w to (DeclaresFieldIn w name desc) (DeclaresFieldIn v name desc)
  declaring_alike name desc = record {
    into = λ c here p. (field_to to p.0, declares_field_into inside name desc p.0 p.1, ap to p.2);
    back = λ c here q.
        let f = field_in q.0 c in
        (f, declares_field_back inside name desc f here (subst (DeclaresField v name desc) (field_at to q.0 c q.2) q.1), refl);
  }

  field_found : (r : FieldRef) (f : FieldId) → ResolvesField w r f → ResolvesField v r (field_to to f)
  field_found r f p = record {
    named = to p.named;
    name = named_into inside p.named r.class p.name;
    declared = declares_field_into inside r.name r.desc f p.declared;
    first = first_into inside (declaring_alike r.name r.desc) p.named f.class.number (named_here w p.named r.class p.name) p.first;
  }

  field_found_back : (r : FieldRef) (c : ℕ) → IsNamed w c r.class → (g : FieldId) → ResolvesField v r g → (f : FieldId) × (g ≡ field_to to f) × ResolvesField w r f
  field_found_back r c named g q =
      let start : q.named ≡ to c = named_only inside c q.named r.class named q.name in
      let first : IsFirst v (DeclaresFieldIn v r.name r.desc) (to c) g.class.number = subst (λ (x : ℕ). IsFirst v (DeclaresFieldIn v r.name r.desc) x g.class.number) start q.first in
      let own = first_back inside (declaring_alike r.name r.desc) c g.class.number (named_here w c r.class named) first in
      let f = field_in g own.0 in
      let is : g ≡ field_to to f = field_at to g own.0 own.1 in (
        f,
        is,
        record {
          named = c;
          name = named;
          declared = declares_field_back inside r.name r.desc f own.2 (subst (DeclaresField v r.name r.desc) is q.declared);
          first = own.3;
        },
      )

  pub field_agrees : (r : FieldRef) (c : ℕ) → IsNamed w c r.class → Agree (field_to to) (ResolvesField w r) (ResolvesField v r)
  field_agrees r c named = record { into = λ f p. field_found r f p; back = λ g q. field_found_back r c named g q }

  pub field_cause_agrees : (r : FieldRef) (c : ℕ) (why : ResolveRefusal) → IsNamed w c r.class → IsFieldUnresolved w r why ↔ IsFieldUnresolved v r why
  field_cause_agrees r c WrongKind named = (λ p. p, λ p. p)
  field_cause_agrees r c NotFound named = none_agree (field_agrees r c named)
  field_cause_agrees r c NoAccess named = (λ p. p, λ p. p)
  field_cause_agrees r c Memory named = (λ p. p, λ p. p)

  -- ---- methods above a class

  declares_for_alike : (c : ℕ) (name : List ℕ) (desc : MethodDesc) → c < length w → ClassesAlike w to (DeclaresFor w c name desc) (DeclaresFor v (to c) name desc)
  declares_for_alike c name desc here =
      let alike = superinterface_alike inside c name desc here in record {
        into = λ d there p. (method_to to p.0, alike.into p.0 p.1, ap to p.2);
        back = λ d there q.
            let r = alike.back q.0 q.1 in
            (r.0, r.2, one_number inside r.0.class.number d (alike.here r.0 r.2) there (ap (λ (x : MethodId). x.class.number) (sym r.1) ∙ q.2));
      }

  first_alike : {P Q : ℕ → Type 0} → ClassesAlike w to P Q → (c : ℕ) → c < length w → FindAlike w to (λ m. IsFirst w P c m.class.number) (λ n. IsFirst v Q (to c) n.class.number)
  first_alike {P} {Q} alike c here = record {
    here = λ m p. first_here w P c m.class.number here p;
    into = λ m p. first_into inside alike c m.class.number here p;
    back = λ n q. let r = first_back inside alike c n.class.number here q in (method_in n r.0, method_at to n r.0 r.1, r.3);
  }

  above_alike : (c : ℕ) (name : List ℕ) (desc : MethodDesc) → c < length w → FindAlike w to (ResolvesAbove w c name desc) (ResolvesAbove v (to c) name desc)
  above_alike c name desc here =
      let default = default_alike inside c name desc here in
      let found = either default (guarded (none_alike default) (first_alike (declares_for_alike c name desc here) c here)) in
      let all = with_alike found (declares_alike inside name desc) in record {
        here = λ m p. declares_here w name desc m p.declared;
        into = λ m p. let r = all.into m (p.found, p.declared) in record { declared = r.1; found = r.0 };
        back = λ n q. let r = all.back n (q.found, q.declared) in (r.0, r.1, record { declared = r.2.1; found = r.2.0 });
      }

  -- ---- from a class

  pub in_class_alike : (c : ℕ) (name : List ℕ) (desc : MethodDesc) → c < length w → FindAlike w to (ResolvesInClass w c name desc) (ResolvesInClass v (to c) name desc)
  in_class_alike c name desc here =
      let declared = declares_alike inside name desc in
      either
      (nearest_alike inside (DeclaresMethod w name desc) (DeclaresMethod v name desc) declared c here)
      (guarded (no_nearest_alike inside (DeclaresMethod w name desc) (DeclaresMethod v name desc) declared c here) (above_alike c name desc here))

  -- ---- from an interface

  own_alike : (c : ℕ) (name : List ℕ) (desc : MethodDesc) → c < length w → FindAlike w to (DeclaresIn w c name desc) (DeclaresIn v (to c) name desc)
  own_alike c name desc here = record {
    here = λ m p. declares_here w name desc m p.0;
    into = λ m p. (declares_into inside name desc m p.0, ap to p.1);
    back = λ n q.
        let m = method_in n c in
        let is : n ≡ method_to to m = method_at to n c q.1 in
        (m, is, (declares_back inside name desc m here (subst (DeclaresMethod v name desc) is q.0), refl));
  }

  -- both worlds have one Object
  pub object_alike : (c : ℕ) (name : List ℕ) (desc : MethodDesc) → c < length w → FindAlike w to (IsObjectMethod w name desc) (IsObjectMethod v name desc)
  object_alike c name desc here =
      let object = object_there w inside.world c here in
      let there : object.0 < length w = named_here w object.0 object_name object.1 in record {
        here = λ m p. declares_here w name desc m p.0;
        into = λ m p. (declares_into inside name desc m p.0, named_into inside m.class.number object_name p.1, public_into inside m p.2);
        back = λ n q.
            let m = method_in n object.0 in
            let is : n ≡ method_to to m = method_at to n object.0 (named_only inside object.0 n.class.number object_name object.1 q.1) in
            (m, is, (declares_back inside name desc m there (subst (DeclaresMethod v name desc) is q.0), object.1, public_back inside m there (subst (IsPublicInstance v) is q.2)));
      }

  in_interface_alike : (c : ℕ) (name : List ℕ) (desc : MethodDesc) → c < length w → FindAlike w to (ResolvesInInterface w c name desc) (ResolvesInInterface v (to c) name desc)
  in_interface_alike c name desc here =
      let own = own_alike c name desc here in
      let object = object_alike c name desc here in
      either own (guarded (none_alike own) (either object (guarded (none_alike object) (above_alike c name desc here))))

  -- ---- by a reference

  pub names_interface : (type : RefType) (c : ℕ) → BeginsAt w type c → IsInterfaceType w type ↔ IsInterfaceType v type
  names_interface type c begins = (
    λ p. (p.0, to p.1, p.2, named_into inside p.1 p.0 p.3, interface_into inside p.1 p.4),
    λ q.
        let named : IsNamed w c q.0 = begins_named w type c q.0 begins q.2 in
        let is : q.1 ≡ to c = named_only inside c q.1 q.0 named q.3 in
        (q.0, c, q.2, named, interface_back inside c (named_here w c q.0 named) (subst (IsInterfaceClass v) is q.4)),
  )

  init_alike : (r : MethodRef) → AlikeAt w to (IsInitKept w r) (IsInitKept v r)
  init_alike r = record {
    into = λ m here p e. let k = p e in (k.0, k.1, named_into inside m.class.number k.0 k.2);
    back = λ m here q e. let k = q e in (k.0, k.1, named_back inside m.class.number k.0 here k.2);
  }

  begins_here : (type : RefType) (c : ℕ) → BeginsAt w type c → c < length w
  begins_here type c begins = named_here w c (unwrap_or (named_class type) object_name) begins

  method_found : (r : MethodRef) (c : ℕ) → BeginsAt w r.class c → (m : MethodId) → ResolvesMethod w r m → ResolvesMethod v r (method_to to m)
  method_found r c begins m p =
      let start : p.start ≡ c = inside.world.numbered.distinct p.start c (unwrap_or (named_class r.class) object_name) p.begins begins in
      let all = with_alike (in_class_alike c r.name r.desc (begins_here r.class c begins)) (init_alike r) in
      let found = all.into m (subst (λ (x : ℕ). ResolvesInClass w x r.name r.desc m) start p.found, p.init) in record {
        start = to c;
        begins = named_into inside c (unwrap_or (named_class r.class) object_name) begins;
        no_interface = λ q. p.no_interface ((names_interface r.class c begins).1 q);
        found = found.0;
        init = found.1;
      }

  method_found_back : (r : MethodRef) (c : ℕ) → BeginsAt w r.class c → (n : MethodId) → ResolvesMethod v r n → (m : MethodId) × (n ≡ method_to to m) × ResolvesMethod w r m
  method_found_back r c begins n q =
      let start : q.start ≡ to c = named_only inside c q.start (unwrap_or (named_class r.class) object_name) begins q.begins in
      let all = with_alike (in_class_alike c r.name r.desc (begins_here r.class c begins)) (init_alike r) in
      let found = all.back n (subst (λ (x : ℕ). ResolvesInClass v x r.name r.desc n) start q.found, q.init) in (
        found.0,
        found.1,
        record {
          start = c;
          begins = begins;
          no_interface = λ p. q.no_interface ((names_interface r.class c begins).0 p);
          found = found.2.0;
          init = found.2.1;
        },
      )

  pub method_alike : (r : MethodRef) (c : ℕ) → BeginsAt w r.class c → FindAlike w to (ResolvesMethod w r) (ResolvesMethod v r)
  method_alike r c begins = record {
    here = λ m p. (in_class_alike p.start r.name r.desc (begins_here r.class p.start p.begins)).here m p.found;
    into = λ m p. method_found r c begins m p;
    back = λ n q. method_found_back r c begins n q;
  }

  interface_method_found : (r : MethodRef) (c : ℕ) → BeginsAt w r.class c → (m : MethodId) → ResolvesInterfaceMethod w r m → ResolvesInterfaceMethod v r (method_to to m)
  interface_method_found r c begins m p =
      let named : IsNamed w c p.name = begins_named w r.class c p.name begins p.names in
      let start : p.start ≡ c = inside.world.numbered.distinct p.start c p.name p.begins named in
      let all = with_alike (in_interface_alike c r.name r.desc (begins_here r.class c begins)) (init_alike r) in
      let found = all.into m (subst (λ (x : ℕ). ResolvesInInterface w x r.name r.desc m) start p.found, p.init) in record {
        start = to c;
        name = p.name;
        names = p.names;
        begins = named_into inside c p.name named;
        interface = interface_into inside c (subst (IsInterfaceClass w) start p.interface);
        found = found.0;
        init = found.1;
      }

  interface_method_found_back : (r : MethodRef) (c : ℕ) → BeginsAt w r.class c → (n : MethodId) → ResolvesInterfaceMethod v r n
      → (m : MethodId) × (n ≡ method_to to m) × ResolvesInterfaceMethod w r m
  interface_method_found_back r c begins n q =
      let named : IsNamed w c q.name = begins_named w r.class c q.name begins q.names in
      let start : q.start ≡ to c = named_only inside c q.start q.name named q.begins in
      let here : c < length w = begins_here r.class c begins in
      let all = with_alike (in_interface_alike c r.name r.desc here) (init_alike r) in
      let found = all.back n (subst (λ (x : ℕ). ResolvesInInterface v x r.name r.desc n) start q.found, q.init) in (
        found.0,
        found.1,
        record {
          start = c;
          name = q.name;
          names = q.names;
          begins = named;
          interface = interface_back inside c here (subst (IsInterfaceClass v) start q.interface);
          found = found.2.0;
          init = found.2.1;
        },
      )

  pub interface_method_alike : (r : MethodRef) (c : ℕ) → BeginsAt w r.class c → FindAlike w to (ResolvesInterfaceMethod w r) (ResolvesInterfaceMethod v r)
  interface_method_alike r c begins = record {
    here = λ m p. (in_interface_alike p.start r.name r.desc (named_here w p.start p.name p.begins)).here m p.found;
    into = λ m p. interface_method_found r c begins m p;
    back = λ n q. interface_method_found_back r c begins n q;
  }

  -- ---- why it doesn't resolve

  pub method_cause_agrees : (r : MethodRef) (c : ℕ) (why : ResolveRefusal) → BeginsAt w r.class c → IsMethodUnresolved w r why ↔ IsMethodUnresolved v r why
  method_cause_agrees r c WrongKind begins = names_interface r.class c begins
  method_cause_agrees r c NotFound begins =
      let kind = names_interface r.class c begins in
      let none = none_alike (method_alike r c begins) in
      (λ p. (λ k. p.0 (kind.1 k), none.0 p.1), λ q. (λ k. q.0 (kind.0 k), none.1 q.1))
  method_cause_agrees r c NoAccess begins = (λ p. p, λ p. p)
  method_cause_agrees r c Memory begins = (λ p. p, λ p. p)

  pub interface_method_cause_agrees : (r : MethodRef) (c : ℕ) (why : ResolveRefusal) → BeginsAt w r.class c → IsInterfaceMethodUnresolved w r why ↔ IsInterfaceMethodUnresolved v r why
  interface_method_cause_agrees r c WrongKind begins =
      let kind = names_interface r.class c begins in
      (λ p k. p (kind.1 k), λ q k. q (kind.0 k))
  interface_method_cause_agrees r c NotFound begins =
      let kind = names_interface r.class c begins in
      let none = none_alike (interface_method_alike r c begins) in
      (λ p. (kind.0 p.0, none.0 p.1), λ q. (kind.1 q.0, none.1 q.1))
  interface_method_cause_agrees r c NoAccess begins = (λ p. p, λ p. p)
  interface_method_cause_agrees r c Memory begins = (λ p. p, λ p. p)
