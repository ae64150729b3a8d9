-- Packages and access, in both worlds.
use Rattle.std.proofs.Common.{◌≡◌, ℕ, ◌<◌, ◌⊎◌, List, length, sym, ap, ◌∙◌, subst, inl, inr}
use Rattle.std.specs.Prelude.{◌↔◌}
use Rattle.jv_types.specs.declared.access.Access.{Access}
use Rattle.jv_types.specs.declared.desc.RefType.{RefType}
use Rattle.jv_types.specs.declared.ids.FieldId.{FieldId}
use Rattle.jv_types.specs.declared.ids.MethodId.{MethodId}
use Rattle.jv_types.specs.declared.references.FieldRef.{FieldRef}
use Rattle.jv_types.specs.declared.references.MethodRef.{MethodRef}
use Rattle.jv_types.specs.declared.shapes.Shape.{Shape}
use Rattle.jv_world.specs.Worlds.{IsNamed, IsSubclass}
use Rattle.jv_resolve.specs.declared.refusal.ResolveRefusal.{ResolveRefusal}
use Rattle.jv_resolve.specs.declared.refusal.ResolveRefusal.TheVariants.{WrongKind, NotFound, NoAccess, Memory}
use Rattle.jv_resolve.specs.Members.{IsPackagePrivate}
use Rattle.jv_resolve.specs.Access.{HasAccess, IsClassAccessible, IsFieldAccessible, IsInLine, IsMethodAccessible, IsProtectedAccess, IsPublicClass, NamesInLine}
use Rattle.jv_resolve.specs.Packages.{AreInOnePackage, package_of}
use Rattle.jv_resolve.specs.References.{BeginsAt}
use Rattle.jv_resolve.specs.Refusals.{HasFieldCause, HasInterfaceMethodCause, HasMethodCause}
use Rattle.jv_resolve.proofs.Hierarchy.{named_here}
use Rattle.jv_two_worlds.specs.Renumbering.{StandsIn, field_to, method_to}
use Rattle.jv_two_worlds.specs.SameClasses.{HaveSameAccess}
use Rattle.jv_two_worlds.proofs.Classes.{shape_back, named_into, named_only, one_number}
use Rattle.jv_two_worlds.proofs.Supertypes.{subclass_into, subclass_exact}
use Rattle.jv_two_worlds.proofs.Members.{declares_field_here, field_into, field_back, method_into, method_back}
use Rattle.jv_two_worlds.proofs.Resolving.{begins_named, field_agrees, field_cause_agrees, method_alike, method_cause_agrees, interface_method_alike, interface_method_cause_agrees}

-- ---- by parts

same_iff : {A : Type 0} → A ↔ A
same_iff = (λ a. a, λ a. a)

either_iff : {A B C D : Type 0} → A ↔ B → C ↔ D → (A ⊎ C) ↔ (B ⊎ D)
either_iff {A} {B} {C} {D} f g = (into, back)
  where
    into : A ⊎ C → B ⊎ D
    into (inl a) = inl (f.0 a)
    into (inr c) = inr (g.0 c)

    back : B ⊎ D → A ⊎ C
    back (inl b) = inl (f.1 b)
    back (inr d) = inr (g.1 d)

both_iff : {A B C D : Type 0} → A ↔ B → C ↔ D → (A × C) ↔ (B × D)
both_iff f g = (λ p. (f.0 p.0, g.0 p.1), λ q. (f.1 q.0, g.1 q.1))

pub package_private : (flags other : Access) → HaveSameAccess flags other → IsPackagePrivate flags ↔ IsPackagePrivate other
package_private flags other same = (
  λ p. ((λ q. p.0 (same.public.1 q)), (λ q. p.1 (same.protected.1 q)), λ q. p.2 (same.private.1 q)),
  λ q. ((λ p. q.0 (same.public.0 p)), (λ p. q.1 (same.protected.0 p)), λ p. q.2 (same.private.0 p)),
)

module _ {w v : List Shape} {to : ℕ → ℕ} (inside : StandsIn w v to) where
  -- ---- packages

  package_into : (c d : ℕ) → AreInOnePackage w c d → AreInOnePackage v (to c) (to d)
  package_into c d p =
      let r = inside.shapes c p.0 p.2 in
      let s = inside.shapes d p.1 p.3 in
      (r.0, s.0, r.1, s.1, ap package_of (sym r.2.name) ∙ p.4 ∙ ap package_of s.2.name)

  package_back : (c d : ℕ) → c < length w → d < length w → AreInOnePackage v (to c) (to d) → AreInOnePackage w c d
  package_back c d here there q =
      let r = shape_back inside c q.0 here q.2 in
      let s = shape_back inside d q.1 there q.3 in
      (r.0, s.0, r.1, s.1, ap package_of r.2.name ∙ q.4 ∙ ap package_of (sym s.2.name))

  pub one_package : (c d : ℕ) → c < length w → d < length w → AreInOnePackage w c d ↔ AreInOnePackage v (to c) (to d)
  one_package c d here there = (λ p. package_into c d p, λ q. package_back c d here there q)

  -- ---- classes

  public_class : (c : ℕ) → c < length w → IsPublicClass w c ↔ IsPublicClass v (to c)
  public_class c here = (
    λ p. let r = inside.shapes c p.0 p.1 in (r.0, r.1, r.2.public.0 p.2),
    λ q. let r = shape_back inside c q.0 here q.1 in (r.0, r.1, r.2.public.1 q.2),
  )

  pub class_access : (from c : ℕ) → from < length w → c < length w → IsClassAccessible w from c ↔ IsClassAccessible v (to from) (to c)
  class_access from c here there = either_iff (public_class c there) (one_package from c here there)

  -- ---- the class that a reference names

  in_line : (c k : ℕ) (name : List ℕ) → c < length w → IsNamed w k name → IsInLine w c name ↔ IsInLine v (to c) name
  in_line c k name here named = (into, back)
    where
      line_into : (d : ℕ) → IsSubclass w c d ⊎ IsSubclass w d c → IsSubclass v (to c) (to d) ⊎ IsSubclass v (to d) (to c)
      line_into d (inl p) = inl (subclass_into inside c d p)
      line_into d (inr p) = inr (subclass_into inside d c p)

      line_back : (e : ℕ) → e ≡ to k → IsSubclass v (to c) e ⊎ IsSubclass v e (to c) → IsSubclass w c k ⊎ IsSubclass w k c
      line_back e is (inl q) = inl (subclass_exact inside c k here (named_here w k name named) (subst (IsSubclass v (to c)) is q))
      line_back e is (inr q) = inr (subclass_exact inside k c (named_here w k name named) here (subst (λ (x : ℕ). IsSubclass v x (to c)) is q))

      into : IsInLine w c name → IsInLine v (to c) name
      into p = (to p.0, named_into inside p.0 name p.1, line_into p.0 p.2)

      back : IsInLine v (to c) name → IsInLine w c name
      back q = (k, named, line_back q.0 (named_only inside k q.0 name named q.1) q.2)

  names_in_line : (c k : ℕ) (type : RefType) → c < length w → BeginsAt w type k → NamesInLine w c type ↔ NamesInLine v (to c) type
  names_in_line c k type here begins = (
    λ p. (p.0, p.1, (in_line c k p.0 here (begins_named w type k p.0 begins p.1)).0 p.2),
    λ q. (q.0, q.1, (in_line c k q.0 here (begins_named w type k q.0 begins q.1)).1 q.2),
  )

  -- ---- members

  one_class : (from c : ℕ) → from < length w → c < length w → (from ≡ c) ↔ (to from ≡ to c)
  one_class from c here there = (λ e. ap to e, λ e. one_number inside from c here there e)

  subclasses : (c d : ℕ) → c < length w → d < length w → IsSubclass w c d ↔ IsSubclass v (to c) (to d)
  subclasses c d here there = (λ p. subclass_into inside c d p, λ q. subclass_exact inside c d here there q)

  protected_access : {L M : Type 0} → L ↔ M → (from c : ℕ) (flags other : Access) → HaveSameAccess flags other → from < length w → c < length w
      → IsProtectedAccess w from L c flags ↔ IsProtectedAccess v (to from) M (to c) other
  protected_access line from c flags other same here there = either_iff (one_package from c here there) (both_iff (subclasses from c here there) (either_iff same.static line))

  has_access : {L M : Type 0} → L ↔ M → (from c : ℕ) (flags other : Access) → HaveSameAccess flags other → from < length w → c < length w
      → HasAccess w from L c flags ↔ HasAccess v (to from) M (to c) other
  has_access line from c flags other same here there =
      either_iff same.public
      (either_iff (both_iff same.protected (protected_access line from c flags other same here there))
      (either_iff (both_iff (package_private flags other same) (one_package from c here there)) (both_iff same.private (one_class from c here there))))

  pub field_access : (from k : ℕ) (r : FieldRef) (f : FieldId) → from < length w → f.class.number < length w → IsNamed w k r.class
      → IsFieldAccessible w from r f ↔ IsFieldAccessible v (to from) r (field_to to f)
  field_access from k r f here there named =
      let line = in_line from k r.class here named in (
        λ p. let y = field_into inside f p.0 p.1 in (y.0, y.1, (has_access line from f.class.number p.0.flags y.0.flags y.2.access here there).0 p.2),
        λ q. let x = field_back inside f q.0 there q.1 in (x.0, x.1, (has_access line from f.class.number x.0.flags q.0.flags x.2.access here there).1 q.2),
      )

  pub method_access : (from k : ℕ) (r : MethodRef) (m : MethodId) → from < length w → m.class.number < length w → BeginsAt w r.class k
      → IsMethodAccessible w from r m ↔ IsMethodAccessible v (to from) r (method_to to m)
  method_access from k r m here there begins =
      let line = names_in_line from k r.class here begins in
      either_iff same_iff (
        λ p. let y = method_into inside m p.0 p.1 in (y.0, y.1, (has_access line from m.class.number p.0.flags y.0.flags y.2.access here there).0 p.2),
        λ q. let x = method_back inside m q.0 there q.1 in (x.0, x.1, (has_access line from m.class.number x.0.flags q.0.flags x.2.access here there).1 q.2),
      )

  -- ---- refusals

  pub field_refusal : (from k : ℕ) (r : FieldRef) (why : ResolveRefusal) → from < length w → IsNamed w k r.class → HasFieldCause w from r why ↔ HasFieldCause v (to from) r why
  field_refusal from k r WrongKind here named = field_cause_agrees inside r k WrongKind named
  field_refusal from k r NotFound here named = field_cause_agrees inside r k NotFound named
  field_refusal from k r NoAccess here named = (
    λ p.
        let there = declares_field_here w r.name r.desc p.0 p.1.declared in
        (field_to to p.0, (field_agrees inside r k named).into p.0 p.1, λ a. p.2 ((field_access from k r p.0 here there named).1 a)),
    λ q.
        let f = (field_agrees inside r k named).back q.0 q.1 in
        let there = declares_field_here w r.name r.desc f.0 f.2.declared in
        (f.0, f.2, λ a. q.2 (subst (IsFieldAccessible v (to from) r) (sym f.1) ((field_access from k r f.0 here there named).0 a))),
  )
  field_refusal from k r Memory here named = same_iff

  pub method_refusal : (from k : ℕ) (r : MethodRef) (why : ResolveRefusal) → from < length w → BeginsAt w r.class k → HasMethodCause w from r why ↔ HasMethodCause v (to from) r why
  method_refusal from k r WrongKind here begins = method_cause_agrees inside r k WrongKind begins
  method_refusal from k r NotFound here begins = method_cause_agrees inside r k NotFound begins
  method_refusal from k r NoAccess here begins = (
    λ p.
        let alike = method_alike inside r k begins in
        (method_to to p.0, alike.into p.0 p.1, λ a. p.2 ((method_access from k r p.0 here (alike.here p.0 p.1) begins).1 a)),
    λ q.
        let alike = method_alike inside r k begins in
        let m = alike.back q.0 q.1 in
        (m.0, m.2, λ a. q.2 (subst (IsMethodAccessible v (to from) r) (sym m.1) ((method_access from k r m.0 here (alike.here m.0 m.2) begins).0 a))),
  )
  method_refusal from k r Memory here begins = same_iff

  pub interface_method_refusal : (from k : ℕ) (r : MethodRef) (why : ResolveRefusal) → from < length w → BeginsAt w r.class k
      → HasInterfaceMethodCause w from r why ↔ HasInterfaceMethodCause v (to from) r why
  interface_method_refusal from k r WrongKind here begins = interface_method_cause_agrees inside r k WrongKind begins
  interface_method_refusal from k r NotFound here begins = interface_method_cause_agrees inside r k NotFound begins
  interface_method_refusal from k r NoAccess here begins = (
    λ p.
        let alike = interface_method_alike inside r k begins in
        (method_to to p.0, alike.into p.0 p.1, λ a. p.2 ((method_access from k r p.0 here (alike.here p.0 p.1) begins).1 a)),
    λ q.
        let alike = interface_method_alike inside r k begins in
        let m = alike.back q.0 q.1 in
        (m.0, m.2, λ a. q.2 (subst (IsMethodAccessible v (to from) r) (sym m.1) ((method_access from k r m.0 here (alike.here m.0 m.2) begins).0 a))),
  )
  interface_method_refusal from k r Memory here begins = same_iff
