-- Resolution of methods in the whole world and in the part.
use Rattle.std.proofs.Common.{◌≡◌, ◌≢◌, ℕ, zero, ◌≤◌, List, Option, Some, refl, sym, ◌∙◌, subst, inl, inr, arith}
use Rattle.std.specs.Prelude.{◌↔◌, unwrap_or}
use Rattle.jv_types.specs.declared.desc.MethodDesc.{MethodDesc}
use Rattle.jv_types.specs.declared.ids.MethodId.{MethodId}
use Rattle.jv_types.specs.declared.references.MethodRef.{MethodRef}
use Rattle.jv_types.specs.declared.shapes.Shape.{Shape}
use Rattle.jv_world.specs.Worlds.{Climbs, IsNamed, IsWorld, ProperSub, object_name}
use Rattle.jv_resolve.specs.declared.refusal.ResolveRefusal.{ResolveRefusal}
use Rattle.jv_resolve.specs.declared.refusal.ResolveRefusal.TheVariants.{WrongKind, NotFound, NoAccess, Memory}
use Rattle.jv_resolve.specs.Inheriting.{IsSuperinterfaceMethod}
use Rattle.jv_resolve.specs.Members.{init_name, DeclaresMethod, HasMethod, IsInterfaceClass, IsMethodCalled}
use Rattle.jv_resolve.specs.References.{named_class, BeginsAt, IsInterfaceType}
use Rattle.jv_resolve.specs.Refusals.{IsInterfaceMethodUnresolved, IsMethodUnresolved}
use Rattle.jv_resolve.specs.Resolving.{DeclaresIn, IsInitKept, IsObjectMethod, IsPublicInstance, ResolvesAbove, ResolvesInClass, ResolvesInInterface, ResolvesInterfaceMethod, ResolvesMethod}
use Rattle.jv_resolve.proofs.Hierarchy.{not_below_itself, sub_from_proper}
use Rattle.jv_resolve.proofs.MembersLemmas.{declared_here, one_method}
use Rattle.jv_resolve.proofs.MethodLemmas.{init_there, other_name}
use Rattle.jv_two_worlds.specs.Agreeing.{Agree}
use Rattle.jv_fewer_members.specs.Keeping.{class_init_name, IsInstanceMethod, KeepsInterfaceMethod, KeepsMembers, KeepsMethod}
use Rattle.jv_fewer_members.specs.Parts.{HasFewerMembers, IsMethodKept, Places, whole_method}
use Rattle.jv_fewer_members.proofs.Heads.{heads_into, heads_back, climbs, interface_class, interface_type, named}
use Rattle.jv_fewer_members.proofs.KeptMembers.{declares_into, declares_part, one_whole, public_into, public_back}
use Rattle.jv_fewer_members.proofs.Resolves.{none_agree}
use Rattle.jv_fewer_members.proofs.Searches.{above_into, above_back, above_method, class_is, no_nearest, superinterface_into}
use Rattle.jv_fewer_members.proofs.Together.{KeepsAbove, keeps_above}

-- a superinterface method is an instance method
superinterface_instance : (w : List Shape) (c : ℕ) (name : List ℕ) (desc : MethodDesc) (m : MethodId) → IsSuperinterfaceMethod w c name desc m → IsInstanceMethod w m name desc
superinterface_instance w c name desc m p =
    let x = p.1.1 in
    let d = p.1.0 in
    let is = one_method w m d.shape x.0 (d.class, d.of_class, d.at_place) x.1 in
    (x.0, x.1, subst (IsMethodCalled name desc) is d.called, x.3)

-- a reference whose method stands properly above the class where its search begins isn't to an initialization method
not_init : (w : List Shape) (r : MethodRef) (start : ℕ) (m : MethodId) → IsWorld w → BeginsAt w r.class start → ProperSub w start m.class.number → IsInitKept w r m → r.name ≢ init_name
not_init w r start m world begins above kept e = not_below_itself w world start m.class.number above (sym (init_there w r start m world begins e kept))

interface_begins : (w : List Shape) (r : MethodRef) (m : MethodId) (p : ResolvesInterfaceMethod w r m) → BeginsAt w r.class p.start
interface_begins w r m p = subst (λ (o : Option (List ℕ)). IsNamed w p.start (unwrap_or o object_name)) (sym p.names) p.begins

both_agree : {A B C D : Type 0} → A ↔ B → C ↔ D → (A × C) ↔ (B × D)
both_agree f g = (λ p. (f.0 p.0, g.0 p.1), λ q. (f.1 q.0, g.1 q.1))

module _ {w v : List Shape} {at : Places} (fewer : HasFewerMembers w v at) (keeps : KeepsMembers w v at) where
  init_into : (r : MethodRef) (n : MethodId) → IsInitKept v r n → IsInitKept w r (whole_method at n)
  init_into r n kept e = let k = kept e in (k.0, k.1, named (heads_back fewer) n.class.number k.0 k.2)

  init_back : (r : MethodRef) (m n : MethodId) → m ≡ whole_method at n → IsInitKept w r m → IsInitKept v r n
  init_back r m n is kept e =
      let k = kept e in
      (k.0, k.1, named (heads_into fewer) n.class.number k.0 (subst (λ (c : ℕ). IsNamed w c k.0) (class_is at m n is) k.2))

  -- each method of the name and descriptor that the class inherits is kept, since one is found above it
  keeps_for : (r : MethodRef) (c : ℕ) (m : MethodId) → r.name ≢ init_name → r.name ≢ class_init_name → IsMethodKept v at m → IsSuperinterfaceMethod w c r.name r.desc m → KeepsAbove w v at c r.name r.desc
  keeps_for r c m init class_init kept p =
      keeps_above keeps c m r.name r.desc (sub_from_proper w c m.class.number p.0) kept (superinterface_instance w c r.name r.desc m p) init class_init

  -- ---- from a class

  -- one nearer in the whole would be what the reference resolves to, and so be kept
  none_nearer : (r : MethodRef) (start : ℕ) → BeginsAt w r.class start → (IsInterfaceType w r.class → ⊥) → KeepsMethod w v at r → r.name ≢ init_name
      → (k : ℕ) → ((j : ℕ) (n : MethodId) → j ≤ k → Climbs v j start n.class.number → DeclaresMethod v r.name r.desc n → ⊥)
      → (m : MethodId) → Climbs w k start m.class.number → DeclaresMethod w r.name r.desc m → ⊥
  none_nearer r start begins no_interface kept init k none m up p =
      no_nearest w (DeclaresMethod w r.name r.desc) start k
      (λ near q le.
      let own = kept near (record { start = start; begins = begins; no_interface = no_interface; found = inl q; init = other_name w r near init }) in
      none q.links own.0 le
      (subst (Climbs v q.links start) (class_is at near own.0 own.2) (climbs (heads_into fewer) q.links start near.class.number q.leads))
      (declares_part fewer r.name r.desc own.0 own.1 (subst (DeclaresMethod w r.name r.desc) own.2 q.meets)))
      m up p

  method_into : (r : MethodRef) → KeepsMethod w v at r → r.name ≢ class_init_name → (n : MethodId) → ResolvesMethod v r n → ResolvesMethod w r (whole_method at n)
  method_into r kept class_init n q = record { start = q.start; begins = begins; no_interface = no_interface; found = pick q.found; init = init_into r n q.init }
    where
      begins : BeginsAt w r.class q.start
      begins = named (heads_back fewer) q.start (unwrap_or (named_class r.class) object_name) q.begins

      no_interface : IsInterfaceType w r.class → ⊥
      no_interface p = q.no_interface (interface_type (heads_into fewer) r.class p)

      pick : ResolvesInClass v q.start r.name r.desc n → ResolvesInClass w q.start r.name r.desc (whole_method at n)
      pick (inl p) = inl (record {
        links = p.links;
        leads = climbs (heads_back fewer) p.links q.start n.class.number p.leads;
        meets = declares_into fewer keeps.alike r.name r.desc n p.meets;
        nearest = λ k other lt up found.
            none_nearer r q.start begins no_interface kept
            (λ e. p.nearest zero n (omega (arith, lt)) (sym (init_there w r q.start (whole_method at n) fewer.world begins e (init_into r n q.init))) p.meets)
            k (λ j m le climbed declared. p.nearest j m (omega (arith, lt, le)) climbed declared) other up found;
      })
      pick (inr (none, p)) =
          let above = above_method v q.start r.name r.desc n p in
          let whole = superinterface_into fewer keeps.alike q.start r.name r.desc n above in
          let init = not_init w r q.start (whole_method at n) fewer.world begins whole.0 (init_into r n q.init) in
          let own = keeps_for r q.start (whole_method at n) init class_init (n, declared_here v r.name r.desc n p.declared, refl) whole in
          inr (
            λ k m up found. none_nearer r q.start begins no_interface kept init k (λ j other le climbed declared. none j other climbed declared) m up found,
            above_into fewer keeps.alike own n p,
          )

  method_back : (r : MethodRef) → KeepsMethod w v at r → r.name ≢ class_init_name → (m : MethodId) → ResolvesMethod w r m → (n : MethodId) × (m ≡ whole_method at n) × ResolvesMethod v r n
  method_back r kept class_init m p =
      let own = kept m p in (
        own.0,
        own.2,
        record {
          start = p.start;
          begins = named (heads_into fewer) p.start (unwrap_or (named_class r.class) object_name) p.begins;
          no_interface = λ q. p.no_interface (interface_type (heads_back fewer) r.class q);
          found = pick own.0 own.1 own.2 p.found;
          init = init_back r m own.0 own.2 p.init;
        },
      )
    where
      pick : (n : MethodId) → HasMethod v n → m ≡ whole_method at n → ResolvesInClass w p.start r.name r.desc m → ResolvesInClass v p.start r.name r.desc n
      pick n has is (inl q) = inl (record {
        links = q.links;
        leads = subst (Climbs v q.links p.start) (class_is at m n is) (climbs (heads_into fewer) q.links p.start m.class.number q.leads);
        meets = declares_part fewer r.name r.desc n has (subst (DeclaresMethod w r.name r.desc) is q.meets);
        nearest = λ k other lt up found. q.nearest k (whole_method at other) lt (climbs (heads_back fewer) k p.start other.class.number up) (declares_into fewer keeps.alike r.name r.desc other found);
      })
      pick n has is (inr (none, q)) =
          let above = above_method w p.start r.name r.desc m q in
          let init = not_init w r p.start m fewer.world p.begins above.0 p.init in
          let own = keeps_for r p.start m init class_init (n, has, is) above in
          let above_own = above_back fewer keeps.alike own m q in
          inr (
            λ k other up found. none k (whole_method at other) (climbs (heads_back fewer) k p.start other.class.number up) (declares_into fewer keeps.alike r.name r.desc other found),
            subst (ResolvesAbove v p.start r.name r.desc) (one_whole fewer above_own.0 n (declared_here v r.name r.desc above_own.0 above_own.2.declared) has (sym above_own.1 ∙ is)) above_own.2,
          )

  pub method_agrees : (r : MethodRef) → KeepsMethod w v at r → r.name ≢ class_init_name → Agree (whole_method at) (ResolvesMethod v r) (ResolvesMethod w r)
  method_agrees r kept class_init = record { into = λ n q. method_into r kept class_init n q; back = λ m p. method_back r kept class_init m p }

  interface_type_agrees : (r : MethodRef) → IsInterfaceType w r.class ↔ IsInterfaceType v r.class
  interface_type_agrees r = (λ p. interface_type (heads_into fewer) r.class p, λ q. interface_type (heads_back fewer) r.class q)

  no_interface_type_agrees : (r : MethodRef) → (IsInterfaceType w r.class → ⊥) ↔ (IsInterfaceType v r.class → ⊥)
  no_interface_type_agrees r = (λ none q. none (interface_type (heads_back fewer) r.class q), λ none p. none (interface_type (heads_into fewer) r.class p))

  pub method_cause_agrees : (r : MethodRef) (why : ResolveRefusal) → KeepsMethod w v at r → r.name ≢ class_init_name → IsMethodUnresolved w r why ↔ IsMethodUnresolved v r why
  method_cause_agrees r WrongKind kept class_init = interface_type_agrees r
  method_cause_agrees r NotFound kept class_init = both_agree (no_interface_type_agrees r) (none_agree (method_agrees r kept class_init))
  method_cause_agrees r NoAccess kept class_init = (λ p. p, λ p. p)
  method_cause_agrees r Memory kept class_init = (λ p. p, λ p. p)

  -- ---- from an interface

  -- what the interface or Object would declare in the whole is what the reference resolves to, and so is kept
  none_own : (r : MethodRef) (start : ℕ) (name : List ℕ) → named_class r.class ≡ Some name → IsNamed w start name → IsInterfaceClass w start → KeepsInterfaceMethod w v at r
      → ((n : MethodId) → DeclaresIn v start r.name r.desc n → ⊥) → (m : MethodId) → DeclaresIn w start r.name r.desc m → ⊥
  none_own r start name names begins interface kept none m p =
      let own = kept m (record {
        start = start;
        name = name;
        names = names;
        begins = begins;
        interface = interface;
        found = inl p;
        init = λ e. (name, names, subst (λ (c : ℕ). IsNamed w c name) (sym p.1) begins);
      }) in
      none own.0 (declares_part fewer r.name r.desc own.0 own.1 (subst (DeclaresMethod w r.name r.desc) own.2 p.0), sym (class_is at m own.0 own.2) ∙ p.1)

  pub object_into : (name : List ℕ) (desc : MethodDesc) (n : MethodId) → IsObjectMethod v name desc n → IsObjectMethod w name desc (whole_method at n)
  object_into name desc n q = (declares_into fewer keeps.alike name desc n q.0, named (heads_back fewer) n.class.number object_name q.1, public_into fewer n q.2)

  pub object_part : (name : List ℕ) (desc : MethodDesc) (m n : MethodId) → HasMethod v n → m ≡ whole_method at n → IsObjectMethod w name desc m → IsObjectMethod v name desc n
  object_part name desc m n has is p = (
    declares_part fewer name desc n has (subst (DeclaresMethod w name desc) is p.0),
    named (heads_into fewer) n.class.number object_name (subst (λ (c : ℕ). IsNamed w c object_name) (class_is at m n is) p.1),
    public_back fewer n has (subst (IsPublicInstance w) is p.2),
  )

  none_object : (r : MethodRef) (start : ℕ) (name : List ℕ) → named_class r.class ≡ Some name → IsNamed w start name → IsInterfaceClass w start → KeepsInterfaceMethod w v at r → r.name ≢ init_name
      → ((m : MethodId) → DeclaresIn w start r.name r.desc m → ⊥) → ((n : MethodId) → IsObjectMethod v r.name r.desc n → ⊥) → (m : MethodId) → IsObjectMethod w r.name r.desc m → ⊥
  none_object r start name names begins interface kept init no_own none m p =
      let own = kept m (record { start = start; name = name; names = names; begins = begins; interface = interface; found = inr (no_own, inl p); init = other_name w r m init }) in
      none own.0 (object_part r.name r.desc m own.0 own.1 own.2 p)

  interface_into : (r : MethodRef) → KeepsInterfaceMethod w v at r → r.name ≢ class_init_name → (n : MethodId) → ResolvesInterfaceMethod v r n → ResolvesInterfaceMethod w r (whole_method at n)
  interface_into r kept class_init n q = record { start = q.start; name = q.name; names = q.names; begins = begins; interface = interface; found = pick q.found; init = init_into r n q.init }
    where
      begins : IsNamed w q.start q.name
      begins = named (heads_back fewer) q.start q.name q.begins

      interface : IsInterfaceClass w q.start
      interface = interface_class (heads_back fewer) q.start q.interface

      at_start : BeginsAt w r.class q.start
      at_start = subst (λ (o : Option (List ℕ)). IsNamed w q.start (unwrap_or o object_name)) (sym q.names) begins

      pick : ResolvesInInterface v q.start r.name r.desc n → ResolvesInInterface w q.start r.name r.desc (whole_method at n)
      pick (inl p) = inl (declares_into fewer keeps.alike r.name r.desc n p.0, p.1)
      pick (inr (none, inl p)) = inr (none_own r q.start q.name q.names begins interface kept none, inl (object_into r.name r.desc n p))
      pick (inr (none, inr p)) =
          let above = superinterface_into fewer keeps.alike q.start r.name r.desc n (above_method v q.start r.name r.desc n p.1) in
          let init = not_init w r q.start (whole_method at n) fewer.world at_start above.0 (init_into r n q.init) in
          let own = keeps_for r q.start (whole_method at n) init class_init (n, declared_here v r.name r.desc n p.1.declared, refl) above in
          let no_own = none_own r q.start q.name q.names begins interface kept none in
          inr (no_own, inr (none_object r q.start q.name q.names begins interface kept init no_own p.0, above_into fewer keeps.alike own n p.1))

  interface_back : (r : MethodRef) → KeepsInterfaceMethod w v at r → r.name ≢ class_init_name → (m : MethodId) → ResolvesInterfaceMethod w r m
      → (n : MethodId) × (m ≡ whole_method at n) × ResolvesInterfaceMethod v r n
  interface_back r kept class_init m p =
      let own = kept m p in (
        own.0,
        own.2,
        record {
          start = p.start;
          name = p.name;
          names = p.names;
          begins = named (heads_into fewer) p.start p.name p.begins;
          interface = interface_class (heads_into fewer) p.start p.interface;
          found = pick own.0 own.1 own.2 p.found;
          init = init_back r m own.0 own.2 p.init;
        },
      )
    where
      no_own : ((other : MethodId) → DeclaresIn w p.start r.name r.desc other → ⊥) → (other : MethodId) → DeclaresIn v p.start r.name r.desc other → ⊥
      no_own none other q = none (whole_method at other) (declares_into fewer keeps.alike r.name r.desc other q.0, q.1)

      pick : (n : MethodId) → HasMethod v n → m ≡ whole_method at n → ResolvesInInterface w p.start r.name r.desc m → ResolvesInInterface v p.start r.name r.desc n
      pick n has is (inl q) = inl (declares_part fewer r.name r.desc n has (subst (DeclaresMethod w r.name r.desc) is q.0), sym (class_is at m n is) ∙ q.1)
      pick n has is (inr (none, inl q)) = inr (no_own none, inl (object_part r.name r.desc m n has is q))
      pick n has is (inr (none, inr q)) =
          let above = above_method w p.start r.name r.desc m q.1 in
          let init = not_init w r p.start m fewer.world (interface_begins w r m p) above.0 p.init in
          let above_own = above_back fewer keeps.alike (keeps_for r p.start m init class_init (n, has, is) above) m q.1 in
          inr (
            no_own none,
            inr (
              λ other found. q.0 (whole_method at other) (object_into r.name r.desc other found),
              subst (ResolvesAbove v p.start r.name r.desc) (one_whole fewer above_own.0 n (declared_here v r.name r.desc above_own.0 above_own.2.declared) has (sym above_own.1 ∙ is)) above_own.2,
            ),
          )

  pub interface_agrees : (r : MethodRef) → KeepsInterfaceMethod w v at r → r.name ≢ class_init_name → Agree (whole_method at) (ResolvesInterfaceMethod v r) (ResolvesInterfaceMethod w r)
  interface_agrees r kept class_init = record { into = λ n q. interface_into r kept class_init n q; back = λ m p. interface_back r kept class_init m p }

  pub interface_cause_agrees : (r : MethodRef) (why : ResolveRefusal) → KeepsInterfaceMethod w v at r → r.name ≢ class_init_name → IsInterfaceMethodUnresolved w r why ↔ IsInterfaceMethodUnresolved v r why
  interface_cause_agrees r WrongKind kept class_init = no_interface_type_agrees r
  interface_cause_agrees r NotFound kept class_init = both_agree (interface_type_agrees r) (none_agree (interface_agrees r kept class_init))
  interface_cause_agrees r NoAccess kept class_init = (λ p. p, λ p. p)
  interface_cause_agrees r Memory kept class_init = (λ p. p, λ p. p)
