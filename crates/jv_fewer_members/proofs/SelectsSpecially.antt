-- What invokespecial runs, in the whole world and in the part.
use Rattle.std.proofs.Common.{◌≡◌, ℕ, suc, ◌⊎◌, List, Option, Some, None, Contains, refl, sym, ap, ◌∙◌, subst, inl, inr}
use Rattle.std.specs.Prelude.{MatchOption, unwrap_or}
use Rattle.jv_types.specs.declared.desc.MethodDesc.{MethodDesc}
use Rattle.jv_types.specs.declared.ids.MethodId.{MethodId}
use Rattle.jv_types.specs.declared.references.MethodRef.{MethodRef}
use Rattle.jv_types.specs.declared.shapes.MethodShape.{MethodShape}
use Rattle.jv_types.specs.declared.shapes.Shape.{Shape}
use Rattle.jv_world.specs.Worlds.{object_name, HasSuperclass, IsFinal, IsInterface, IsNamed, IsWorld, Sub, same, link}
use Rattle.jv_resolve.specs.Members.{DeclaresMethod, HasMethod, IsConcrete, IsInterfaceClass, IsMethod, IsPrivate, IsStatic}
use Rattle.jv_resolve.specs.References.{named_class, BeginsAt}
use Rattle.jv_resolve.specs.Resolving.{IsObjectMethod, ResolvesInClass, ResolvesInInterface, ResolvesInterfaceMethod, ResolvesMethod}
use Rattle.jv_resolve.specs.Selecting.{FindsInInterface, IsSpecial, IsSpecialCandidate, IsSuperCall, SelectsFrom, SelectsInInterface, SelectsSpecial, SpecialStart}
use Rattle.jv_resolve.proofs.Hierarchy.{not_below_itself, one_shape, sub_from_proper, sub_itself, sub_trans}
use Rattle.jv_resolve.proofs.MembersLemmas.{declared_here, declares_one, one_method}
use Rattle.jv_resolve.proofs.MethodLemmas.{class_declares, interface_declares}
use Rattle.jv_resolve.proofs.PlacesLemmas.{among_from_get}
use Rattle.jv_resolve.proofs.ReferenceLemmas.{begins_named}
use Rattle.jv_resolve.proofs.SpecialLemmas.{superclass_from}
use Rattle.jv_two_worlds.specs.Agreeing.{Agree}
use Rattle.jv_fewer_members.specs.Keeping.{IsSelectable, KeepsMembers}
use Rattle.jv_fewer_members.specs.Parts.{HasFewerMembers, Places, whole_method}
use Rattle.jv_fewer_members.proofs.Heads.{SameHeads, heads_into, heads_back, climbs, interface_class, named, superclass}
use Rattle.jv_fewer_members.proofs.KeptMembers.{concrete_into, concrete_back, declares_into, declares_part, method_part, method_whole}
use Rattle.jv_fewer_members.proofs.ResolvesMethods.{object_into, object_part}
use Rattle.jv_fewer_members.proofs.Searches.{AgreeAbove, above_method, class_is, climbs_above, default_into, default_back, inherited_back}
use Rattle.jv_fewer_members.proofs.Selects.{at_other, by_agrees, selected_above}
use Rattle.jv_fewer_members.proofs.Together.{KeepsAbove}

-- ---- where the search starts

-- the class that the reference names is the start or above it
start_below : (w : List Shape) (from : ℕ) (r : MethodRef) (name : List ℕ) (start k : ℕ) → IsWorld w → SpecialStart w from r name start → BeginsAt w r.class k → Sub w start k
start_below w from r name start k world (inl (call, step)) begins =
    let is : call.2 ≡ k = world.numbered.distinct call.2 k call.1 call.4 (begins_named w r.class (Some call.1) k (sym call.3) begins) in
    let up = superclass_from w from start call.2 world step call.5 in
    subst (Sub w start) is (climbs_above w up.0 start call.2 up.1)
start_below w from r name start k world (inr (other, here)) begins =
    same start k (world.numbered.distinct start k (unwrap_or (named_class r.class) object_name) here begins)

-- a superclass is no interface
superclass_kind : (w : List Shape) (c d : ℕ) → IsWorld w → HasSuperclass w c d → IsInterfaceClass w d → ⊥
superclass_kind w c d world step interface =
    let IsRight : Option (List ℕ) → Type 0 = λ o. MatchOption o (step.0.name ≡ object_name) (λ n. (other : Shape) → Contains w other → other.name ≡ n → (IsInterface other → ⊥) × (IsFinal other → ⊥)) in
    let right : IsRight (Some step.1) = subst IsRight step.3 (world.right_supers step.0 (among_from_get w c step.0 step.2)).superclass in
    let is : interface.0 ≡ step.4.0 = one_shape w d interface.0 step.4.0 interface.1 step.4.1 in
    (right step.4.0 (among_from_get w d step.4.0 step.4.1) step.4.2).0 (subst IsInterface is interface.2)

start_interface : (w : List Shape) (from : ℕ) (r : MethodRef) (name : List ℕ) (start : ℕ) → IsWorld w → SpecialStart w from r name start → IsInterfaceClass w start → BeginsAt w r.class start
start_interface w from r name start world (inl (call, step)) interface = absurd (superclass_kind w from start world step interface)
start_interface w from r name start world (inr (other, begins)) interface = begins

-- the superclass of an interface is Object
above_interface : (w : List Shape) (c d : ℕ) → IsWorld w → IsInterfaceClass w c → IsNamed w d object_name → HasSuperclass w c d
above_interface w c d world interface named_object =
    (interface.0, object_name, interface.1, (world.right_supers interface.0 (among_from_get w c interface.0 interface.1)).of_interface interface.2, named_object)

-- a class or an array is no interface
no_interface_start : (w : List Shape) (r : MethodRef) (m : MethodId) (start : ℕ) → IsWorld w → ResolvesMethod w r m → BeginsAt w r.class start → IsInterfaceClass w start → (o : Option (List ℕ)) → named_class r.class ≡ o → ⊥
no_interface_start w r m start world p begins interface (Some name) e = p.no_interface (name, start, e, begins_named w r.class (Some name) start (sym e) begins, interface)
no_interface_start w r m start world p begins interface None e =
    let object : IsNamed w start object_name = begins_named w r.class None start (sym e) begins in
    not_below_itself w world start start (start, inl (above_interface w start start world interface object), sub_itself w start) refl

-- ---- what the reference resolves to stands at or above the class that it names

abbrev Resolves : List Shape → MethodRef → MethodId → Type 0
Resolves w r m = ResolvesMethod w r m ⊎ ResolvesInterfaceMethod w r m

class_below : (w : List Shape) (c : ℕ) (name : List ℕ) (desc : MethodDesc) (m : MethodId) → ResolvesInClass w c name desc m → Sub w c m.class.number
class_below w c name desc m (inl p) = climbs_above w p.links c m.class.number p.leads
class_below w c name desc m (inr (none, p)) = sub_from_proper w c m.class.number (above_method w c name desc m p).0

interface_below : (w : List Shape) (c : ℕ) (name : List ℕ) (desc : MethodDesc) (m : MethodId) → IsWorld w → IsInterfaceClass w c → ResolvesInInterface w c name desc m → Sub w c m.class.number
interface_below w c name desc m world interface (inl p) = same c m.class.number (sym p.1)
interface_below w c name desc m world interface (inr (none, inl p)) =
    link c m.class.number m.class.number (inl (above_interface w c m.class.number world interface p.1)) (sub_itself w m.class.number)
interface_below w c name desc m world interface (inr (none, inr p)) = sub_from_proper w c m.class.number (above_method w c name desc m p.1).0

resolved_below : (w : List Shape) (r : MethodRef) (m : MethodId) → IsWorld w → Resolves w r m → (k : ℕ) × BeginsAt w r.class k × Sub w k m.class.number
resolved_below w r m world (inl p) = (p.start, p.begins, class_below w p.start r.name r.desc m p.found)
resolved_below w r m world (inr p) = (
  p.start,
  subst (λ (o : Option (List ℕ)). IsNamed w p.start (unwrap_or o object_name)) (sym p.names) p.begins,
  interface_below w p.start r.name r.desc m world p.interface p.found,
)

resolved_declared : (w : List Shape) (r : MethodRef) (m : MethodId) → Resolves w r m → DeclaresMethod w r.name r.desc m
resolved_declared w r m (inl p) = class_declares w p.start r.name r.desc m p.found
resolved_declared w r m (inr p) = interface_declares w p.start r.name r.desc m p.found

-- ---- the start in both worlds

super_call : (w v : List Shape) → SameHeads w v → (from : ℕ) (r : MethodRef) (name : List ℕ) → IsSuperCall w from r name → IsSuperCall v from r name
super_call w v heads from r name p = (p.0, p.1, p.2, p.3, named heads p.2 p.1 p.4, (p.5.0, climbs heads (suc p.5.0) from p.2 p.5.1))

starts : (w v : List Shape) → SameHeads w v → SameHeads v w → (from : ℕ) (r : MethodRef) (name : List ℕ) (start : ℕ) → SpecialStart w from r name start → SpecialStart v from r name start
starts w v into back from r name start (inl p) = inl (super_call w v into from r name p.0, superclass into from start p.1)
starts w v into back from r name start (inr p) = inr ((λ call. p.0 (super_call v w back from r name call)), named into start (unwrap_or (named_class r.class) object_name) p.1)

module _ {w v : List Shape} {at : Places} (fewer : HasFewerMembers w v at) (keeps : KeepsMembers w v at) (resolved : MethodId) (has : HasMethod v resolved) where
  -- ---- candidates

  special_into : (n : MethodId) → IsSpecial v resolved n → IsSpecial w (whole_method at resolved) (whole_method at n)
  special_into n q = let y = method_whole fewer n q.0 q.1 in (y.0, y.1, (λ p. q.2 (y.2.access.static.0 p)), pick (λ no p. no (y.2.access.private.0 p)) q.3)
    where
      pick : {A B : Type 0} → (A → B) → A ⊎ (n ≡ resolved) → B ⊎ (whole_method at n ≡ whole_method at resolved)
      pick f (inl a) = inl (f a)
      pick f (inr e) = inr (ap (whole_method at) e)

  module _ {c : ℕ} {name : List ℕ} {desc : MethodDesc} (above : KeepsAbove w v at c name desc) where
    special_back : (m : MethodId) → Sub w c m.class.number → DeclaresMethod w name desc m → (x : MethodShape) → IsMethod w m x → (IsStatic x.flags → ⊥) → (IsPrivate x.flags → ⊥) ⊎ (m ≡ whole_method at resolved)
        → (n : MethodId) × (m ≡ whole_method at n) × IsSpecialCandidate v resolved name desc n
    special_back m up declared x place no_static (inl no_private) =
        let r = inherited_back fewer keeps.alike above m up declared (x, place, no_private, no_static) in
        (r.0, r.1, (r.2, (r.3.0, r.3.1, r.3.3, inl r.3.2)))
    special_back m up declared x place no_static (inr e) =
        let y = method_part fewer resolved x has (subst (λ (z : MethodId). IsMethod w z x) e place) in
        (resolved, e, (declares_part fewer name desc resolved has (subst (DeclaresMethod w name desc) e declared), (y.0, y.1, (λ q. no_static (y.2.access.static.1 q)), inr refl)))

    special_agrees : AgreeAbove w v at c (IsSpecialCandidate v resolved name desc) (IsSpecialCandidate w (whole_method at resolved) name desc)
    special_agrees = record {
      here = λ n q. declared_here v name desc n q.0;
      into = λ n q. (declares_into fewer keeps.alike name desc n q.0, special_into n q.1);
      back = λ m up p. special_back m up p.0 p.1.0 p.1.1 p.1.2 p.1.3;
    }

  -- ---- in an interface

  module _ (r : MethodRef) (resolves : Resolves w r (whole_method at resolved)) (start : ℕ) (interface : IsInterfaceClass w start) (begins : BeginsAt w r.class start) (no_static : (x : MethodShape) → IsMethod w (whole_method at resolved) x → IsStatic x.flags → ⊥)
      (above : KeepsAbove w v at start r.name r.desc) where
    -- a method of Object that is found there is what the reference resolves to
    object_is : ((other : MethodId) → other.class.number ≡ start → IsSpecialCandidate w (whole_method at resolved) r.name r.desc other → ⊥) → (m : MethodId) → IsObjectMethod w r.name r.desc m → whole_method at resolved ≡ m
    object_is no_own m p = by_kind resolves
      where
        by_interface : ResolvesInInterface w start r.name r.desc (whole_method at resolved) → whole_method at resolved ≡ m
        by_interface (inl own) =
            let place = declared_here w r.name r.desc (whole_method at resolved) own.0 in
            absurd (no_own (whole_method at resolved) own.1 (own.0, (place.0, place.1, no_static place.0 place.1, inr refl)))
        by_interface (inr (none, inl object)) =
            declares_one w r.name r.desc (whole_method at resolved) m object.0 p.0 (fewer.world.numbered.distinct resolved.class.number m.class.number object_name object.1 p.1)
        by_interface (inr (none, inr rest)) = absurd (rest.0 m p)

        by_kind : Resolves w r (whole_method at resolved) → whole_method at resolved ≡ m
        by_kind (inl q) = absurd (no_interface_start w r (whole_method at resolved) start fewer.world q begins interface (named_class r.class) refl)
        by_kind (inr q) =
            let is : q.start ≡ start = fewer.world.numbered.distinct q.start start q.name q.begins (begins_named w r.class (Some q.name) start (sym q.names) begins) in
            by_interface (subst (λ (c : ℕ). ResolvesInInterface w c r.name r.desc (whole_method at resolved)) is q.found)

    no_own_into : ((n : MethodId) → n.class.number ≡ start → IsSpecialCandidate v resolved r.name r.desc n → ⊥)
        → (m : MethodId) → m.class.number ≡ start → IsSpecialCandidate w (whole_method at resolved) r.name r.desc m → ⊥
    no_own_into none m e p = let o = (special_agrees above).back m (same start m.class.number (sym e)) p in none o.0 (sym (class_is at m o.0 o.1) ∙ e) o.2

    no_own_back : ((m : MethodId) → m.class.number ≡ start → IsSpecialCandidate w (whole_method at resolved) r.name r.desc m → ⊥)
        → (n : MethodId) → n.class.number ≡ start → IsSpecialCandidate v resolved r.name r.desc n → ⊥
    no_own_back none n e q = none (whole_method at n) e ((special_agrees above).into n q)

    finds_into : (n : MethodId) → FindsInInterface v resolved r.name r.desc start n → FindsInInterface w (whole_method at resolved) r.name r.desc start (whole_method at n)
    finds_into n (inl q) = inl ((special_agrees above).into n q.0, q.1)
    finds_into n (inr (none, inl q)) = inr (no_own_into none, inl (object_into fewer keeps r.name r.desc n q))
    finds_into n (inr (none, inr q)) = inr (
      no_own_into none,
      inr (
        λ other p. q.0 resolved (object_part fewer keeps r.name r.desc other resolved has (sym (object_is (no_own_into none) other p)) p),
        default_into fewer keeps.alike above n q.1,
      ),
    )

    finds_back : (m : MethodId) → FindsInInterface w (whole_method at resolved) r.name r.desc start m → (n : MethodId) × (m ≡ whole_method at n) × HasMethod v n × FindsInInterface v resolved r.name r.desc start n
    finds_back m (inl p) =
        let o = (special_agrees above).back m (same start m.class.number (sym p.1)) p.0 in
        (o.0, o.1, declared_here v r.name r.desc o.0 o.2.0, inl (o.2, sym (class_is at m o.0 o.1) ∙ p.1))
    finds_back m (inr (none, inl p)) =
        let is = sym (object_is none m p) in
        (resolved, is, has, inr (no_own_back none, inl (object_part fewer keeps r.name r.desc m resolved has is p)))
    finds_back m (inr (none, inr p)) =
        let o = default_back fewer keeps.alike above m p.1 in
        (o.0, o.1, declared_here v r.name r.desc o.0 o.2.specific.method.1.0, inr (no_own_back none, inr ((λ other q. p.0 (whole_method at other) (object_into fewer keeps r.name r.desc other q)), o.2)))

    in_interface_into : (n : MethodId) → SelectsInInterface v resolved r.name r.desc start n → SelectsInInterface w (whole_method at resolved) r.name r.desc start (whole_method at n)
    in_interface_into n q = (finds_into n q.0, concrete_into fewer n q.1)

    in_interface_back : (m : MethodId) → SelectsInInterface w (whole_method at resolved) r.name r.desc start m → (n : MethodId) × (m ≡ whole_method at n) × SelectsInInterface v resolved r.name r.desc start n
    in_interface_back m p = let o = finds_back m p.0 in (o.0, o.1, (o.3, concrete_back fewer o.0 o.2 (subst (IsConcrete w) o.1 p.1)))

-- ---- all together

module _ {w v : List Shape} {at : Places} (fewer : HasFewerMembers w v at) (keeps : KeepsMembers w v at) (resolved : MethodId) (is : IsSelectable v resolved) (r : MethodRef)
    (resolves : Resolves w r (whole_method at resolved)) (from : ℕ) where
  has : HasMethod v resolved
  has = (is.2.0, is.2.1)

  not_static : (x : MethodShape) → IsMethod w (whole_method at resolved) x → IsStatic x.flags → ⊥
  not_static x place k = let y = method_part fewer resolved x has place in is.2.3 (subst (λ (z : MethodShape). IsStatic z.flags) (one_method v resolved y.0 is.2.0 y.1 is.2.1) (y.2.access.static.0 k))

  -- the shape of the resolved method has the name and the descriptor of the reference
  named_by : (x : MethodShape) → IsMethod w (whole_method at resolved) x → (r.name ≡ x.name) × (r.desc ≡ x.desc)
  named_by x place =
      let d = resolved_declared w r (whole_method at resolved) resolves in
      let one : d.shape ≡ x = one_method w (whole_method at resolved) d.shape x (d.class, d.of_class, d.at_place) place in
      (sym d.called.0 ∙ ap (λ (y : MethodShape). y.name) one, sym d.called.1 ∙ ap (λ (y : MethodShape). y.desc) one)

  named_part : (x : MethodShape) → IsMethod v resolved x → (r.name ≡ x.name) × (r.desc ≡ x.desc)
  named_part x place = let y = method_whole fewer resolved x place in let n = named_by y.0 y.1 in (n.0 ∙ y.2.name, n.1 ∙ y.2.desc)

  start_above : (start : ℕ) → SpecialStart w from r r.name start → KeepsAbove w v at start r.name r.desc
  start_above start begins =
      let k = resolved_below w r (whole_method at resolved) fewer.world resolves in
      let up = sub_trans w start k.0 resolved.class.number (start_below w from r r.name start k.0 fewer.world begins k.1) k.2 in
      let n = named_part is.2.0 is.2.1 in
      at_other (λ name desc. KeepsAbove w v at start name desc) (sym n.0) (sym n.1) (selected_above fewer keeps start resolved is.2.0 is is.2.1 up)

  from_into : (start : ℕ) → SpecialStart w from r r.name start → (n : MethodId) → SelectsFrom v resolved r.name r.desc start n → SelectsFrom w (whole_method at resolved) r.name r.desc start (whole_method at n)
  from_into start begins n (inl q) =
      let above = start_above start begins in
      inl ((λ k. q.0 (interface_class (heads_into fewer) start k)), (by_agrees fewer keeps above (special_agrees fewer keeps resolved has above)).into n q.1)
  from_into start begins n (inr q) =
      let interface = interface_class (heads_back fewer) start q.0 in
      inr (interface, in_interface_into fewer keeps resolved has r resolves start interface (start_interface w from r r.name start fewer.world begins interface) not_static (start_above start begins) n q.1)

  from_back : (start : ℕ) → SpecialStart w from r r.name start → (m : MethodId) → SelectsFrom w (whole_method at resolved) r.name r.desc start m → (n : MethodId) × (m ≡ whole_method at n) × SelectsFrom v resolved r.name r.desc start n
  from_back start begins m (inl p) =
      let above = start_above start begins in
      let o = (by_agrees fewer keeps above (special_agrees fewer keeps resolved has above)).back m p.1 in
      (o.0, o.1, inl ((λ k. p.0 (interface_class (heads_back fewer) start k)), o.2))
  from_back start begins m (inr p) =
      let o = in_interface_back fewer keeps resolved has r resolves start p.0 (start_interface w from r r.name start fewer.world begins p.0) not_static (start_above start begins) m p.1 in
      (o.0, o.1, inr (interface_class (heads_into fewer) start p.0, o.2))

  pub special_calls_agree : Agree (whole_method at) (SelectsSpecial v from r resolved) (SelectsSpecial w from r (whole_method at resolved))
  special_calls_agree = record {
    into = λ n q.
        let y = method_whole fewer resolved q.shape q.place in
        let own = named_part q.shape q.place in
        let other = named_by y.0 y.1 in
        let begins = starts v w (heads_back fewer) (heads_into fewer) from r r.name q.start (subst (λ (name : List ℕ). SpecialStart v from r name q.start) (sym own.0) q.starts) in
        let found = from_into q.start begins n (at_other (λ name desc. SelectsFrom v resolved name desc q.start n) (sym own.0) (sym own.1) q.selects) in record {
          shape = y.0;
          place = y.1;
          start = q.start;
          starts = subst (λ (name : List ℕ). SpecialStart w from r name q.start) other.0 begins;
          selects = at_other (λ name desc. SelectsFrom w (whole_method at resolved) name desc q.start (whole_method at n)) other.0 other.1 found;
        };
    back = λ m p.
        let x = method_part fewer resolved p.shape has p.place in
        let own = named_by p.shape p.place in
        let other = named_part x.0 x.1 in
        let begins = subst (λ (name : List ℕ). SpecialStart w from r name p.start) (sym own.0) p.starts in
        let o = from_back p.start begins m (at_other (λ name desc. SelectsFrom w (whole_method at resolved) name desc p.start m) (sym own.0) (sym own.1) p.selects) in (
          o.0,
          o.1,
          record {
            shape = x.0;
            place = x.1;
            start = p.start;
            starts = subst (λ (name : List ℕ). SpecialStart v from r name p.start) other.0 (starts w v (heads_into fewer) (heads_back fewer) from r r.name p.start begins);
            selects = at_other (λ name desc. SelectsFrom v resolved name desc p.start o.0) other.0 other.1 o.2;
          },
        );
  }
